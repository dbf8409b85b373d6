-- What packing one variable comes to.
use Rattle.std.specs.Prelude.{◌≡◌, List, [], ◌∷◌, Bool, ℕ, ◌≤◌, ◌<◌, length, get_or}
use Rattle.theory.specs.Tree.{Term, enc}
use Rattle.theory.specs.Table.{Table}
use Rattle.theory.specs.Least.{every, some, lowest}
use Rattle.theory.specs.Match.{positions, in_set, lowest_at_lem, highest_at}
use Rattle.theory.specs.Stands.{Gathered}
use Rattle.meaning.specs.Packing.{through, all_words_lem}
use Rattle.meaning.specs.Over.{over}
use Rattle.facing.specs.Notes.{numbers_of}
use Rattle.facing.specs.declared.notes.Note.{Note}
use Rattle.positions.specs.Position.{Within, Covers, NearOf}
use Rattle.variable.specs.declared.Found.{Found}

-- The first n positions of a variable that the terms ts face are packed at the front of the buffer `before`: their sets, whether none of these
-- is empty, and the least of what the positions have as their lowest and as their highest degree.
pub record PackedTo (T : Table) (cut : ℕ) (ts : List Term) (n : ℕ) (before after : List ℕ) (form : Bool) (low high : ℕ) : Type 0 where
  pub words : after ≡ over before 0 (all_words_lem (through n (λ k. in_set T cut ts k ∷ [])))
  pub forms : form ≡ every n (λ k. some T.size (in_set T cut ts k))
  pub at-worst : low ≡ lowest n (lowest_at_lem T cut ts)
  pub at_best : high ≡ lowest n (highest_at T cut ts)

-- All positions are, of these terms, at whatever cut the near sets are of.
abbrev pub PackedOf : Table → List ℕ → List ℕ → List Term → List ℕ → List ℕ → Found → Type 0
PackedOf T near heading ts before after r =
    (cut : ℕ) → NearOf T cut near heading → PackedTo T cut ts (positions ts) before after r.formed r.degrees.lowest r.degrees.highest

-- .. of whatever terms stand where the notes say
abbrev pub VariablePacked : Table → List ℕ → List ℕ → List Note → List ℕ → List ℕ → Found → Type 0
VariablePacked T near heading notes before after r = (ts : List Term) → Gathered heading (numbers_of notes) (length notes) ts → PackedOf T near heading ts before after r

-- .. of the one term that the nodes write
abbrev pub PackedAlone : List ℕ → List ℕ → List ℕ → List ℕ → Found → Type 0
PackedAlone near nodes before after r = (T : Table) (t : Term) → nodes ≡ enc t → PackedOf T near nodes (t ∷ []) before after r

-- A variable's notes are of some subterms inside the heading, whose symbols are those of the table and have their near sets.
pub record OwnNotes (T : Table) (near heading : List ℕ) (notes : List Note) : Type 0 where
  pub covers : Covers heading near
  pub symbols : (i : ℕ) → i < length heading → get_or heading i 0 < T.size
  pub few : length heading ≤ 1024
  pub within : Within heading notes
  pub some : 0 < length notes
