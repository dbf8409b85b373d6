-- Sets packed as loops write them: one more position adds its set's words behind all others, and one more variable adds those of its
-- positions.
use mathlib.Core.Path.{◌≡◌, refl, sym as inv, ap, ◌∙◌}
use mathlib.Core.List.{List, [], ◌∷◌, ◌++◌, append_assoc, append-nil}
use mathlib.Core.Bool.{Bool, false}
use Prim.Native.Nat.{ℕ, ◌+◌, ◌*◌}
use native.Mathlib.Numerals.{add-one}
use native.Mathlib.Omega.{arith}
use lib.ListN.{length, length-append}
use Rattle.theory.specs.Table.{Table}
use Rattle.theory.specs.Faces.{Face, facing}
use Rattle.theory.specs.Match.{in_set}
use Rattle.meaning.specs.Limits.{set_words_lem}
use Rattle.meaning.specs.Packing.{through, count_of, sum, words, sets_of, all_words_lem}
use Rattle.meaning.proofs.Bits.{length-words}
use Rattle.meaning.proofs.Packing.{length-through, one, length_one}

-- LAW: one more list at the end
pub through_last : {A : Type 0} (n : ℕ) (f : ℕ → List A) → through (n + 1) f ≡ through n f ++ f n
through_last n f = rw add-one

-- LAW: the words of two rows of sets
pub words_append : (xs ys : List (ℕ → Bool)) → all_words_lem (xs ++ ys) ≡ all_words_lem xs ++ all_words_lem ys
words_append [] ys = refl
words_append (x ∷ xs) ys = ap (λ l. words x ++ l) (words_append xs ys) ∙ inv (append_assoc (words x) (all_words_lem xs) (all_words_lem ys))

pub words_last : (xs : List (ℕ → Bool)) (x : ℕ → Bool) → all_words_lem (xs ++ (x ∷ [])) ≡ all_words_lem xs ++ words x
words_last xs x = words_append xs (x ∷ []) ∙ ap (λ l. all_words_lem xs ++ l) (append-nil (words x))

module _ (T : Table) (c : ℕ) (fs : List Face) where
  -- LAW: one more variable
  pub sets_last : (vs : List ℕ) (v : ℕ) → sets_of T c fs (vs ++ (v ∷ [])) ≡ sets_of T c fs vs ++ through (count_of fs v) (one T c fs v)
  sets_last [] v = append-nil (through (count_of fs v) (one T c fs v))
  sets_last (w ∷ vs) v =
      ap (λ l. through (count_of fs w) (one T c fs w) ++ l) (sets_last vs v)
      ∙ inv (append_assoc (through (count_of fs w) (one T c fs w)) (sets_of T c fs vs) (through (count_of fs v) (one T c fs v)))

  -- LAW: as many sets as positions
  pub sets_many : (vs : List ℕ) → length (sets_of T c fs vs) ≡ sum (count_of fs) vs
  sets_many [] = refl
  sets_many (v ∷ vs) = omega (arith, length-append (through (count_of fs v) (one T c fs v)) (sets_of T c fs vs), length_one T c fs v, sets_many vs)

  pub words_many : (vs : List ℕ) → length (all_words_lem (sets_of T c fs vs)) ≡ set_words_lem * sum (count_of fs) vs
  words_many vs = omega (arith, length-words (sets_of T c fs vs), sets_many vs)

  -- the words of these variables, and of the first k positions of v
  abbrev pub words_to : List ℕ → ℕ → ℕ → List ℕ
  words_to vs v k = all_words_lem (sets_of T c fs vs ++ through k (one T c fs v))

  -- LAW: one more position
  pub words_to_last : (vs : List ℕ) (v k : ℕ) → words_to vs v (k + 1) ≡ words_to vs v k ++ words (in_set T c (facing v fs) k)
  words_to_last vs v k =
      ap (λ l. all_words_lem (sets_of T c fs vs ++ l)) (through_last k (one T c fs v))
      ∙ ap all_words_lem (inv (append_assoc (sets_of T c fs vs) (through k (one T c fs v)) (one T c fs v k)))
      ∙ words_last (sets_of T c fs vs ++ through k (one T c fs v)) (in_set T c (facing v fs) k)

  pub words_to_start : (vs : List ℕ) (v : ℕ) → words_to vs v 0 ≡ all_words_lem (sets_of T c fs vs)
  words_to_start vs v = ap all_words_lem (append-nil (sets_of T c fs vs))

  pub words_to_end : (vs : List ℕ) (v : ℕ) → words_to vs v (count_of fs v) ≡ all_words_lem (sets_of T c fs (vs ++ (v ∷ [])))
  words_to_end vs v = ap all_words_lem (inv (sets_last vs v))

  pub words_to_many : (vs : List ℕ) (v k : ℕ) → length (words_to vs v k) ≡ set_words_lem * (sum (count_of fs) vs + k)
  words_to_many vs v k =
      omega (
        arith,
        length-words (sets_of T c fs vs ++ through k (one T c fs v)),
        length-append (sets_of T c fs vs) (through k (one T c fs v)),
        sets_many vs,
        length-through (one T c fs v) 1 (λ k. refl) (λ s. false) k,
      )
