-- The bytes of numbers, laid over an output number by number, and what a copy into a part of the output leaves there.
use mathlib.Core.Path.{◌≡◌, refl, sym, ap, ◌∙◌}
use mathlib.Core.List.{List, [], ◌∷◌, ◌++◌}
use Prim.Native.Nat.{ℕ, ◌+◌, ◌*◌, ◌≤◌, ◌<◌}
use native.Mathlib.Omega.{arith}
use lib.ListN.{length, get_or, take, drop}
use lib.Seq.{length-take-le, take-length}
use borrow.Rule.Slice.PartMut.{put_mid}
use Rattle.std.proofs.lemmas.Slice.{put_mid-paste}
use Rattle.meaning.specs.File.{bytes_of}
use Rattle.meaning.specs.Over.{over}
use Rattle.meaning.proofs.Over.{over_then, one_more}
use Rattle.layout.specs.Bytes.{numbers_bytes}

pub length-numbers_bytes : (ns : List ℕ) → length (numbers_bytes ns) ≡ 2 * length ns
length-numbers_bytes [] = refl
length-numbers_bytes (n ∷ ns) = omega (arith, length-numbers_bytes ns)

pub numbers_bytes-append : (ms ns : List ℕ) → numbers_bytes (ms ++ ns) ≡ numbers_bytes ms ++ numbers_bytes ns
numbers_bytes-append [] ns = refl
numbers_bytes-append (m ∷ ms) ns = ap (λ bs. bytes_of m ++ bs) (numbers_bytes-append ms ns)

module _ (out : List ℕ) (at : ℕ) (s : List ℕ) (i : ℕ) (inside : i < length s) where
  -- LAW: a number more, by its two bytes
  pub number_more : at + 2 * i ≤ length out → over (over out at (numbers_bytes (take i s))) (at + 2 * i) (bytes_of (get_or s i 0)) ≡ over out at (numbers_bytes (take (i + 1) s))
  number_more l =
      over_then out at (numbers_bytes (take i s)) (2 * i) (bytes_of (get_or s i 0)) (omega (arith, length-numbers_bytes (take i s), length-take-le i s (omega arith))) l
      ∙ ap (over out at) (sym (numbers_bytes-append (take i s) (get_or s i 0 ∷ [])) ∙ ap numbers_bytes (one_more out at s i inside))

-- a copy into the part of the output from `at` on that is as long as what is copied
pub over_copied : (out : List ℕ) (at k : ℕ) {part : List ℕ} (xs : List ℕ) → part ≡ xs → k ≡ length xs → put_mid at k out part ≡ over out at xs
unfolding over
over_copied out at k xs e l = put_mid-paste at k out _ xs (length xs) e (sym l) refl ∙ ap (λ s. take at out ++ s ++ drop (at + length xs) out) (take-length xs)
