-- What stands at one position of the subterms that face a variable, which are noted by where each begins in the heading and how many nodes it
-- has, and what may stand there for the variable.
use Rattle.std.specs.Prelude.{◌≡◌, List, Bool, true, ◌&&◌, cond, ℕ, ◌+◌, ◌≤◌, ◌<◌, min, ltb, leb, length, get_or}
use Rattle.theory.specs.Table.{Table, Lawful}
use Rattle.theory.specs.Least.{lowest, highest}
use Rattle.meaning.specs.Limits.{set_room}
use Rattle.meaning.specs.Buffers.{member}
use Rattle.near.specs.Near.{Kept, is_near, NearSet, NearSets}
use Rattle.facing.specs.Notes.{note_at}
use Rattle.facing.specs.declared.notes.Note.{Note}
use Rattle.wide.specs.Shared.{shared_by_lem}

-- each noted subterm stays inside the heading
abbrev pub Within : List ℕ → List Note → Type 0
Within heading notes = (o : ℕ) → o < length notes → (note_at notes o).start + (note_at notes o).size ≤ length heading

-- there is a near set for each symbol of the heading
abbrev pub Covers : List ℕ → List ℕ → Type 0
Covers heading near = (i : ℕ) → i < length heading → Kept near (get_or heading i 0)

-- the near sets are those of a table at a cut, and the numbers of the heading are its symbols
pub record NearOf (T : Table) (cut : ℕ) (near heading : List ℕ) : Type 0 where
  pub lawful : Lawful T
  pub small : T.size ≤ set_room
  pub positive : 0 < cut
  pub top : cut ≤ 1000
  pub sets : NearSets T cut heading near
  pub symbols : (i : ℕ) → i < length heading → get_or heading i 0 < T.size

-- .. of the symbols of a set
pub record NearTo (T : Table) (cut : ℕ) (near faced : List ℕ) : Type 0 where
  pub lawful : Lawful T
  pub small : T.size ≤ set_room
  pub sets : (h : ℕ) → member faced h ≡ true → NearSet T cut near h
  pub symbols : (h : ℕ) → member faced h ≡ true → h < T.size

-- The near sets of the symbols of a set are there, each below so many symbols, and there is one.
pub record KeptOf (near : List ℕ) (symbols : ℕ) (faced : List ℕ) : Type 0 where
  pub few : symbols ≤ set_room
  pub kept : (h : ℕ) → member faced h ≡ true → Kept near h
  pub below : (h : ℕ) → member faced h ≡ true → h < symbols
  pub some : (h : ℕ) × (member faced h ≡ true)

-- ---- which symbols stand there

-- The first n subterms have a symbol at position k, and these are the symbols, each once.
pub record StandAt (heading : List ℕ) (notes : List Note) (k n : ℕ) (symbols : List ℕ) : Type 0 where
  pub reach : (o : ℕ) → o < n → k < (note_at notes o).size
  pub each : (o : ℕ) → o < n → member symbols (get_or heading ((note_at notes o).start + k) 0) ≡ true
  pub only : (h : ℕ) → member symbols h ≡ true → (o : ℕ) × (o < n) × (get_or heading ((note_at notes o).start + k) 0 ≡ h)

-- One of the first n subterms has no position k.
abbrev pub EndsBefore : List Note → ℕ → ℕ → Type 0
EndsBefore notes k n = (o : ℕ) × (o < n) × ((note_at notes o).size ≤ k)

-- ---- which may stand there for the variable, and at which degrees

module _ (T : Table) (cut : ℕ) (faced : List ℕ) where
  -- symbol s is near enough to all that stand there
  abbrev pub in_shared : ℕ → Bool
  in_shared s = ltb s T.size && leb cut (shared_by_lem T faced s)

  -- the lowest and the highest degree that such a symbol shares with them
  abbrev pub lowest_shared : ℕ
  lowest_shared = lowest T.size (λ s. cond (in_shared s) (shared_by_lem T faced s) 1000)

  abbrev pub highest_shared : ℕ
  highest_shared = highest T.size (λ s. cond (in_shared s) (shared_by_lem T faced s) 0)

  -- the lowest degree in a near set of one that stands there: no shared symbol has a lower one
  abbrev pub floor_of : ℕ
  floor_of = lowest T.size (λ h. cond (member faced h) (lowest T.size (λ s. cond (is_near T cut h s) (T.deg s h) 1000)) 1000)

  -- the words are the shared symbols', and the number is that floor
  pub record SharedIs (set : List ℕ) (floor : ℕ) : Type 0 where
    pub set_is : (s : ℕ) → member set s ≡ in_shared s
    pub floor_is : floor ≡ floor_of

  -- the lowest and the highest degree so far, with those here
  pub record Rated (before-low before-high low high : ℕ) : Type 0 where
    pub lowest_is : low ≡ min before-low lowest_shared
    pub highest_is : high ≡ min before-high highest_shared

-- set and floor are those of whatever table and cut the near sets are of
abbrev pub SharedBy : List ℕ → ℕ → List ℕ → List ℕ → ℕ → Type 0
SharedBy near symbols faced set floor = (T : Table) (cut : ℕ) → T.size ≡ symbols → NearTo T cut near faced → SharedIs T cut faced set floor
