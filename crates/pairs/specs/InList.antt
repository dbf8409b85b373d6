-- The pairs of a list of numbers are read from it: each has its three numbers there, where it is whole.
use mathlib.Core.Path.{◌≡◌, refl, ◌∙◌}
use mathlib.Core.List.{List, [], ◌∷◌}
use Prim.Native.Nat.{ℕ, zero, suc, ◌+◌, ◌*◌, ◌/◌, ◌^◌, ◌≤◌, ◌<◌}
use native.Mathlib.Omega.{arith}
use lib.ListN.{length, get_or, get_or-eq_default}
use Rattle.theory.specs.Pairs.{Pair, pair}
use Rattle.meaning.specs.File.{pairs_of}
use Rattle.pairs.specs.Reads.{Reads}

-- the pair whose first number is number i
abbrev pub three_at : List ℕ → ℕ → Pair
three_at ns i = pair (get_or ns i 0) (get_or ns (i + 1) 0) (get_or ns (i + 2) 0)

three_past : (ns : List ℕ) (i : ℕ) → length ns ≤ i → pair 0 0 0 ≡ three_at ns i
three_past ns i e =
    let a : get_or ns i 0 ≡ 0 = get_or-eq_default ns 0 e in
    let b : get_or ns (i + 1) 0 ≡ 0 = get_or-eq_default ns 0 (omega arith) in
    let c : get_or ns (i + 2) 0 ≡ 0 = get_or-eq_default ns 0 (omega arith) in
    rw (a, b, c)

three_on : (l h d : ℕ) (ns : List ℕ) (k : ℕ) → three_at ns (3 * k) ≡ three_at (l ∷ h ∷ d ∷ ns) (3 * suc k)
three_on l h d ns k =
    let a : 3 * suc k ≡ suc (suc (suc (3 * k))) = omega arith in
    let b : 3 * suc k + 1 ≡ suc (suc (suc (3 * k + 1))) = omega arith in
    let c : 3 * suc k + 2 ≡ suc (suc (suc (3 * k + 2))) = omega arith in
    rw (c, b, a)

-- LAW: pair k has the numbers from 3k on
pub pair_at_lem : (ns : List ℕ) (k : ℕ) → get_or (pairs_of ns) k (pair 0 0 0) ≡ three_at ns (3 * k)
unfolding pairs_of
pair_at_lem [] k = refl
pair_at_lem (l ∷ []) zero = refl
pair_at_lem (l ∷ h ∷ []) zero = refl
pair_at_lem (l ∷ h ∷ d ∷ ns) zero = refl
pair_at_lem (l ∷ []) (suc k) = three_past (l ∷ []) (3 * suc k) (omega arith)
pair_at_lem (l ∷ h ∷ []) (suc k) = three_past (l ∷ h ∷ []) (3 * suc k) (omega arith)
pair_at_lem (l ∷ h ∷ d ∷ ns) (suc k) = pair_at_lem ns k ∙ three_on l h d ns k

-- LAW: so the list is read as its pairs
pub list_reads : (ns : List ℕ) → ((i : ℕ) → get_or ns i 0 < 65536) → length ns < 2 ^ 63 → Reads (λ i. get_or ns i 0) (pairs_of ns) (length ns / 3)
list_reads ns small few = record { are = λ k l. pair_at_lem ns k; short = λ k. rw (pair_at_lem ns k) (small (3 * k + 1)); fits = omega arith }
