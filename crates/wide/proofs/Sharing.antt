-- What symbols share with the members of a set: each member lowers it to the degree with that member, and numbers that are no members do not
-- count.
use mathlib.Core.Path.{◌≡◌, sym as inv, ◌∙◌}
use mathlib.Core.List.{List}
use mathlib.Core.Bool.{true}
use Prim.Native.Nat.{ℕ, ◌+◌, ◌≤◌, ◌<◌, min}
use native.Mathlib.Numerals.{add-one}
use native.Mathlib.Omega.{arith}
use lib.ListN.{get_or}
use Rattle.theory.specs.Table.{Table}
use Rattle.theory.proofs.Lemmas.{fewest, skipped}
use Rattle.meaning.specs.Buffers.{member}
use Rattle.sets.specs.Words.{NoneBetween}
use Rattle.wide.specs.Shared.{shared_by_lem}

module _ (T : Table) (faced : List ℕ) where
  -- the numbers are what the symbols share with the members below m
  pub record SharedTo (m : ℕ) (least : List ℕ) : Type 0 where
    pub within : m ≤ T.size
    pub is : (s : ℕ) → s < T.size → get_or least s 0 ≡ fewest (member faced) (T.deg s) m

  -- LAW: with k, the next member that is not below m
  pub shared_next : (m k : ℕ) (least row lower : List ℕ) → m ≤ k → k < T.size → member faced k ≡ true → NoneBetween faced m k
      → ((s : ℕ) → s < T.size → get_or row s 0 ≡ T.deg s k) → ((s : ℕ) → s < T.size → get_or lower s 0 ≡ min (get_or least s 0) (get_or row s 0))
      → SharedTo m least → SharedTo (k + 1) lower
  shared_next m k least row lower up l is none degrees lowered shared = record { within = omega arith; is = here }
    where
      here : (s : ℕ) → s < T.size → get_or lower s 0 ≡ fewest (member faced) (T.deg s) (k + 1)
      here s u =
          let before = (skipped (member faced) (T.deg s) m k up none).0 in
          rw (add-one k, is) (omega (arith, lowered s u, degrees s u, shared.is s u, before))

  -- LAW: with no further member
  pub shared_end : (m : ℕ) (least : List ℕ) → NoneBetween faced m T.size → SharedTo m least → (s : ℕ) → s < T.size → get_or least s 0 ≡ shared_by_lem T faced s
  shared_end m least none shared s l = shared.is s l ∙ inv (skipped (member faced) (T.deg s) m T.size shared.within none).0
