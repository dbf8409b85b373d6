-- A search by halving among n places with rising keys: a look at a place says on which side of it the key that is sought stands, if it stands
-- anywhere. Where no place is left between the two ends, none has the key.
use mathlib.Core.Path.{◌≡◌, ap}
use Prim.Native.Nat.{ℕ, zero, suc, ◌+◌, ◌≤◌, ◌<◌}
use native.Mathlib.Nat.{not-suc-le-zero}
use native.Mathlib.Decide.{dec_lt}
use native.Mathlib.Omega.{arith}
use Rattle.degrees.specs.Sought.{Between}

abbrev pub Rising : (ℕ → ℕ) → ℕ → Type 0
Rising key n = (i j : ℕ) → i < j → j < n → key i < key j

-- LAW: keys that rise step by step
pub steps_rise : (key : ℕ → ℕ) (n : ℕ) → ((k : ℕ) → suc k < n → key k < key (suc k)) → Rising key n
steps_rise key n step i zero l m = absurd (not-suc-le-zero l)
steps_rise key n step i (suc j) l m = go (dec_lt i j) (steps_rise key n step i j)
  where
    go : Dec (i < j) → (i < j → j < n → key i < key j) → key i < key (suc j)
    go (yes v) rest = omega (arith, rest v (omega arith), step j m)
    go (no v) rest = let e : i ≡ j = omega arith in omega (arith, ap key e, step j m)

module _ (key : ℕ → ℕ) (n : ℕ) (up : Rising key n) where
  -- LAW: no key is below an earlier one
  pub not_falling : (i j : ℕ) → i ≤ j → j < n → key i ≤ key j
  not_falling i j l m = go (dec_lt i j)
    where
      go : Dec (i < j) → key i ≤ key j
      go (yes v) = omega (arith, up i j v m)
      go (no v) = let e : i ≡ j = omega arith in omega (arith, ap key e)

  module _ (wanted low high middle : ℕ) (l : middle < n) (b : Between key n wanted low high) where
    -- LAW: the key at the middle is too low, so the one sought stands behind it
    pub go_up : key middle < wanted → Between key n wanted (middle + 1) high
    go_up h = record { within = b.within; stands = λ k m e. (past k e (dec_lt middle k), (b.stands k m e).1) }
      where
        past : (k : ℕ) → key k ≡ wanted → Dec (middle < k) → middle + 1 ≤ k
        past k e (yes v) = omega arith
        past k e (no v) = absurd (omega (arith, not_falling k middle (omega arith) l))

    -- LAW: .. too high, so the one sought stands before it
    pub go_down : wanted < key middle → Between key n wanted low middle
    go_down h = record { within = omega arith; stands = λ k m e. ((b.stands k m e).0, ahead k m e (dec_lt k middle)) }
      where
        ahead : (k : ℕ) → k < n → key k ≡ wanted → Dec (k < middle) → k < middle
        ahead k m e (yes v) = v
        ahead k m e (no v) = absurd (omega (arith, not_falling middle k (omega arith) m))

module _ (key : ℕ → ℕ) (n wanted : ℕ) where
  -- LAW: the two ends have met
  pub none_between : (low high : ℕ) → Between key n wanted low high → high ≤ low → (k : ℕ) → k < n → key k ≡ wanted → ⊥
  none_between low high b h k l e = let s = b.stands k l e in omega (arith, s.0, s.1)
