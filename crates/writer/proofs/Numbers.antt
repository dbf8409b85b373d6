-- Numbers handed in three to a pair: how many pairs they give, which they are, and that their bytes are the numbers' own bytes. A last pair
-- that is not whole has the degree 0, so a list that holds only pairs that may be listed has no such pair.
use mathlib.Core.Path.{◌≡◌, refl, ap}
use mathlib.Core.List.{List, [], ◌∷◌, ◌++◌}
use mathlib.Core.Bool.{true, ◌||◌, not}
use Prim.Native.Nat.{ℕ, ◌+◌, ◌*◌, ◌/◌, ◌%◌, ◌≤◌}
use native.Mathlib.Omega.{arith}
use lib.Dec.{ltb, eqb}
use lib.ListN.{length, get_or, get_or-eq_default}
use Rattle.theory.specs.Least.{All}
use Rattle.theory.specs.Pairs.{Pair, pair, SoundPair}
use Rattle.theory.proofs.Lemmas.{or_right}
use Rattle.meaning.specs.File.{pair_bytes, pairs_bytes, pairs_of, numbers_of_lem}
use Rattle.meaning.specs.Refusals.{unsound}
use Rattle.pairs.specs.InList.{pair_at_lem}
use Rattle.layout.specs.Bytes.{numbers_bytes}

pub length-pairs_of : (ns : List ℕ) → length (pairs_of ns) ≡ (length ns + 2) / 3
unfolding pairs_of
length-pairs_of [] = refl
length-pairs_of (l ∷ []) = refl
length-pairs_of (l ∷ h ∷ []) = refl
length-pairs_of (l ∷ h ∷ d ∷ ns) = omega (arith, length-pairs_of ns)

pub pairs_of_numbers : (ps : List Pair) → pairs_of (numbers_of_lem ps) ≡ ps
unfolding pairs_of numbers_of_lem
pairs_of_numbers [] = refl
pairs_of_numbers (pair l h d ∷ ps) = ap (λ qs. pair l h d ∷ qs) (pairs_of_numbers ps)

pub bytes_of_pairs : (ns : List ℕ) → length ns % 3 ≡ 0 → pairs_bytes (pairs_of ns) ≡ numbers_bytes ns
unfolding pairs_of
bytes_of_pairs [] e = refl
bytes_of_pairs (l ∷ []) e = absurd (omega arith)
bytes_of_pairs (l ∷ h ∷ []) e = absurd (omega arith)
bytes_of_pairs (l ∷ h ∷ d ∷ ns) e = ap (λ bs. pair_bytes (pair l h d) ++ bs) (bytes_of_pairs ns (omega arith))

pub sound_whole : (arities ns : List ℕ) → All (SoundPair arities) (pairs_of ns) → length ns % 3 ≡ 0
unfolding pairs_of
sound_whole arities [] s = refl
sound_whole arities (l ∷ []) s = absurd (omega (arith, s.0.3))
sound_whole arities (l ∷ h ∷ []) s = absurd (omega (arith, s.0.3))
sound_whole arities (l ∷ h ∷ d ∷ ns) s = omega (arith, sound_whole arities ns s.1)

-- a pair of degree 0 may not be listed, and so none whose degree is past the numbers' end
no_degree : (arities : List ℕ) (l h : ℕ) → unsound arities (pair l h 0) ≡ true
no_degree arities l h = or_right (not (ltb l h) || not (ltb h (length arities)) || not (eqb (get_or arities l 0) (get_or arities h 0))) true refl

pub cut_short : (arities ns : List ℕ) (k : ℕ) → length ns ≤ 3 * k + 2 → unsound arities (get_or (pairs_of ns) k (pair 0 0 0)) ≡ true
cut_short arities ns k l = rw (pair_at_lem ns k, get_or-eq_default ns 0 l) (no_degree arities (get_or ns (3 * k) 0) (get_or ns (3 * k + 1) 0))
