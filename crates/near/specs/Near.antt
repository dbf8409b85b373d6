-- What a match gathers of the symbols near the symbols of a heading: for each symbol there are the words of a set, and a number that is kept with it.
use Rattle.std.specs.Prelude.{◌≡◌, ◌⊎◌, List, Bool, ◌&&◌, ◌||◌, cond, ℕ, ◌+◌, ◌-◌, ◌*◌, ◌/◌, ◌%◌, ◌≤◌, ◌<◌, max, ltb, leb, eqb, length, get_or}
use Rattle.theory.specs.Table.{Table}
use Rattle.theory.specs.Least.{lowest}
use Rattle.theory.specs.Pairs.{is_pair}
use Rattle.meaning.specs.Limits.{word_bits, set_words_lem, set_room}
use Rattle.meaning.specs.Buffers.{bit, member}

-- the words of a symbol
abbrev pub near_words : ℕ
near_words = set_words_lem + 1

-- the bit of symbol k is set in the words of h
unfoldable pub in_row : List ℕ → ℕ → ℕ → Bool
in_row near h k = bit (k % word_bits) (get_or near (near_words * h + k / word_bits) 0)

-- what is kept behind the set of h: 1 where the set is not gathered; else 2 and how far the lowest degree in the set is below 1000
unfoldable pub kept : List ℕ → ℕ → ℕ
kept near h = get_or near (near_words * h + set_words_lem) 0

-- There is room for the words of each symbol, and no set is gathered yet; what stands where sets will be plays no part.
pub record Fresh (T : Table) (near : List ℕ) : Type 0 where
  pub room : near_words * T.size ≤ length near
  pub none : (h : ℕ) → h < T.size → kept near h ≡ 1

-- The words of h are there, its set is gathered, and a set has room for h.
abbrev pub Kept : List ℕ → ℕ → Type 0
Kept near h = (near_words * (h + 1) ≤ length near) × (1 < kept near h) × (kept near h ≤ 1002) × (h < set_room)

-- k is a symbol whose degree with h reaches the cut
abbrev pub is_near : Table → ℕ → ℕ → ℕ → Bool
is_near T cut h k = ltb k T.size && leb cut (T.deg k h)

-- The set of h is gathered: in it are the symbols near to h, h itself among them, and the lowest of their degrees is kept with it.
pub record NearSet (T : Table) (cut : ℕ) (near : List ℕ) (h : ℕ) : Type 0 where
  pub has : (k : ℕ) → k < set_room → in_row near h k ≡ is_near T cut h k
  pub gathered : 1 < kept near h
  pub within : kept near h ≤ 1002
  pub low : 1002 - kept near h ≡ lowest T.size (λ k. cond (is_near T cut h k) (T.deg k h) 1000)

-- of each symbol of a list
abbrev pub NearSets : Table → ℕ → List ℕ → List ℕ → Type 0
NearSets T cut list near = (i : ℕ) → i < length list → NearSet T cut near (get_or list i 0)

-- ---- the steps

-- Only h is in the set of h, so that no degree in it is below 1000.
pub record Alone (near : List ℕ) (h : ℕ) : Type 0 where
  pub has : (k : ℕ) → k < set_room → in_row near h k ≡ eqb k h
  pub top : kept near h ≡ 2

-- No pair has been looked at: the set of h is not gathered, or h is alone in it.
abbrev pub Unpaired : List ℕ → ℕ → Type 0
Unpaired near h = (kept near h ≡ 1) ⊎ Alone near h

-- The words of h are there, no pair has been looked at, and a set has room for h.
abbrev pub Ready : List ℕ → ℕ → Type 0
Ready near h = (near_words * (h + 1) ≤ length near) × Unpaired near h × (h < set_room)

-- Symbol h is alone in its set, if no pair had been looked at, and the words of all others are as before.
pub record Opened (h : ℕ) (before after : List ℕ) : Type 0 where
  pub alone : Unpaired before h → Alone after h
  pub others : (p w : ℕ) → (p ≡ h → ⊥) → w < near_words → get_or after (near_words * p + w) 0 ≡ get_or before (near_words * p + w) 0

-- Symbol k has joined the set of a symbol, of which these are the words, at this degree. This and the next two are of gathered sets alone.
pub record OwnJoined (k degree : ℕ) (before after : List ℕ) : Type 0 where
  pub has : 1 < get_or before set_words_lem 0 → (j : ℕ) → j < set_room → member after j ≡ (member before j || eqb j k)
  pub far : 1 < get_or before set_words_lem 0 → get_or after set_words_lem 0 ≡ max (get_or before set_words_lem 0) (1002 - degree)

-- Symbol k has joined the set of symbol h at this degree, and all else is as before.
pub record Joined (h k degree : ℕ) (before after : List ℕ) : Type 0 where
  pub has : (p j : ℕ) → 1 < kept before p → j < set_room → in_row after p j ≡ (in_row before p j || (eqb p h && eqb j k))
  pub far : (p : ℕ) → 1 < kept before p → kept after p ≡ cond (eqb p h) (max (kept before p) (1002 - degree)) (kept before p)

-- The symbols of a pair have joined each other's sets if its degree reaches the cut, and all else is as before.
pub record PairJoined (cut lower higher degree : ℕ) (before after : List ℕ) : Type 0 where
  pub has : (p j : ℕ) → 1 < kept before p → j < set_room → in_row after p j ≡ (in_row before p j || (leb cut degree && is_pair lower higher p j))
  pub far : (p : ℕ) → 1 < kept before p
      → kept after p ≡ cond (leb cut degree && (eqb p lower || eqb p higher)) (max (kept before p) (1002 - degree)) (kept before p)
