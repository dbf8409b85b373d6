-- What the functions on one position come to.
use Rattle.std.specs.Prelude.{◌≡◌, ⊤, List, Option, MatchOption, IfSome, ℕ, ◌+◌, ◌≤◌, ◌<◌, min, length, get_or}
use Rattle.theory.specs.Table.{Table, Lawful}
use Rattle.meaning.specs.Limits.{set_words_lem}
use Rattle.refusal.specs.declared.Degrees.{Degrees}
use Rattle.sets.specs.Words.{one_bit}
use Rattle.facing.specs.Notes.{note_at}
use Rattle.facing.specs.declared.notes.Note.{Note}
use Rattle.wide.specs.Shared.{shared_by_lem, lowest_from, highest_from}
use Rattle.positions.specs.Position.{StandAt, EndsBefore, SharedIs, Rated}
use Rattle.positions.specs.declared.faced.Faced.{Faced}
use Rattle.positions.specs.declared.faced.Faced.TheVariants.{Alone, Several}

-- the symbols that stand there, as the words of a set
abbrev pub words_of : Faced → List ℕ
words_of (Alone symbol) = one_bit set_words_lem symbol
words_of (Several set) = set.words

-- a symbol that stands there alone is the first subterm's
abbrev pub AloneIs : ℕ → Faced → Type 0
AloneIs first (Alone symbol) = symbol ≡ first
AloneIs first (Several set) = ⊤

-- what stands at position k of all subterms, if all have a symbol there
pub record LookedAt (heading : List ℕ) (notes : List Note) (k : ℕ) (r : Option Faced) : Type 0 where
  pub stand : MatchOption r (EndsBefore notes k (length notes)) (λ faced. StandAt heading notes k (length notes) (words_of faced))
  pub alone_is : IfSome r (AloneIs (get_or heading ((note_at notes 0).start + k) 0))

-- a symbol that stands there alone is one of so many
abbrev pub IsBelow : ℕ → Faced → Type 0
IsBelow size (Alone symbol) = symbol < size
IsBelow size (Several set) = ⊤

abbrev pub AloneBelow : ℕ → Option Faced → Type 0
AloneBelow size r = IfSome r (IsBelow size)

module _ (T : Table) (faced : List ℕ) where
  -- the degrees here of those that share the floor at least, with those before
  pub record RatedBy (floor : ℕ) (before r : Degrees) : Type 0 where
    pub lowest_is : r.lowest ≡ min before.lowest (lowest_from floor T.size (shared_by_lem T faced))
    pub highest_is : r.highest ≡ min before.highest (highest_from floor T.size (shared_by_lem T faced))

  -- the degrees here with those before, at whatever cut set and floor are of
  pub record RatedAt (set : List ℕ) (floor : ℕ) (before r : Degrees) : Type 0 where
    pub lowest_falls : r.lowest ≤ before.lowest
    pub highest_falls : r.highest ≤ before.highest
    pub rated : (cut : ℕ) → Lawful T → cut ≤ 1000 → SharedIs T cut faced set floor → Rated T cut faced before.lowest before.highest r.lowest r.highest

-- the degrees at a position, with those before: where a subterm ends before it no symbol may stand there, and the highest degree is 0
abbrev pub DegreesAt : Table → Option Faced → List ℕ → ℕ → Degrees → Degrees → Type 0
DegreesAt T faced set floor before r = MatchOption faced ((r.lowest ≡ before.lowest) × (r.highest ≡ 0)) (λ there. RatedAt T (words_of there) set floor before r)
