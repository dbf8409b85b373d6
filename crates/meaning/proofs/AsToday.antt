-- A saved answer of a table whose symbols all had room: the further words of its sets are zeros today, so what is packed today is what was packed then,
-- widened set by set.
use mathlib.Core.Path.{◌≡◌, refl, sym as inv, ap, ap₂, ◌∙◌}
use mathlib.Core.List.{List, [], ◌∷◌, ◌++◌, append-nil, append_assoc}
use mathlib.Core.Bool.{Bool, false}
use Prim.Native.Nat.{ℕ, zero, suc, ◌+◌, ◌-◌, ◌*◌, ◌/◌, ◌≤◌}
use native.Mathlib.Omega.{arith}
use lib.ListN.{length, take, drop, length-append, replicate-append-replicate}
use lib.Seq.{drop-append-add, take_at}
use borrow.Author.Tests.{le-ltb}
use Rattle.theory.specs.Tree.{Term}
use Rattle.theory.specs.Table.{Table}
use Rattle.theory.specs.Least.{All}
use Rattle.theory.specs.Faces.{Face}
use Rattle.theory.specs.Match.{in_set}
use Rattle.meaning.specs.Limits.{word_bits, set_words_lem}
use Rattle.meaning.specs.Packing.{through, bits, words_from, all_words_by, all_words_lem}
use Rattle.meaning.specs.Calls.{zeros}
use Rattle.meaning.specs.Saved.{saved_words, saved_room, widened_set, widened}

-- ---- one set

-- no symbol of the set had no room
abbrev pub Small : (ℕ → Bool) → Type 0
Small set = (s : ℕ) → saved_room ≤ s → set s ≡ false

module _ (set : ℕ → Bool) where
  no_bits : Small set → (k n : ℕ) → saved_room ≤ k → bits set k n ≡ 0
  no_bits m k zero l = refl
  no_bits m k (suc n) l = rw (m k l, no_bits m (suc k) n (omega arith))

  no_words : Small set → (k n : ℕ) → saved_room ≤ k → words_from set k n ≡ zeros n
  no_words m k zero l = refl
  no_words m k (suc n) l = ap₂ ◌∷◌ (no_bits m k word_bits l) (no_words m (k + word_bits) n (omega arith))

  words_split : (k m n : ℕ) → words_from set k (m + n) ≡ words_from set k m ++ words_from set (k + word_bits * m) n
  words_split k zero n =
      let from : k ≡ k + word_bits * 0 = omega arith in
      let none_more : 0 + n ≡ n = omega arith in
      ap₂ (words_from set) from none_more
  words_split k (suc m) n =
      let more : suc m + n ≡ suc (m + n) = omega arith in
      ap (words_from set k) more
      ∙ ap (λ l. bits set k word_bits ∷ l) (words_split (k + word_bits) m n ∙ ap (λ i. words_from set (k + word_bits) m ++ words_from set i n) (omega arith))

  -- LAW: a set's words today are those it had, and zeros
  today : Small set → words_from set 0 set_words_lem ≡ words_from set 0 saved_words ++ zeros (set_words_lem - saved_words)
  today m = words_split 0 saved_words (set_words_lem - saved_words) ∙ ap (λ l. words_from set 0 saved_words ++ l) (no_words m saved_room (set_words_lem - saved_words) (omega arith))

-- ---- set by set

through-first : {A : Type 0} (n : ℕ) (f : ℕ → List A) → through (suc n) f ≡ f 0 ++ through n (λ k. f (suc k))
through-first zero f = inv (append-nil (f 0))
through-first (suc n) f = ap (λ l. l ++ f (suc n)) (through-first n f) ∙ append_assoc (f 0) (through n (λ k. f (suc k))) (f (suc n))

-- LAW: the first set, widened, and the others
widened-first : (set rest : List ℕ) → length set ≡ saved_words → widened (set ++ rest) ≡ (set ++ zeros (set_words_lem - saved_words)) ++ widened rest
unfolding widened
widened-first set rest l =
    ap (λ n. through n (widened_set (set ++ rest))) count
    ∙ through-first (length rest / saved_words) (widened_set (set ++ rest))
    ∙ ap₂ ◌++◌ (ap (λ ws. ws ++ zeros (set_words_lem - saved_words)) (take_at set rest saved_words l)) (λ i. through (length rest / saved_words) (λ k. others k i))
  where
    count : length (set ++ rest) / saved_words ≡ suc (length rest / saved_words)
    count = omega (arith, length-append set rest)

    others : (k : ℕ) → widened_set (set ++ rest) (suc k) ≡ widened_set rest k
    others k =
        let i : saved_words * suc k ≡ length set + saved_words * k = omega arith in
        ap (λ i. take saved_words (drop i (set ++ rest)) ++ zeros (set_words_lem - saved_words)) i
        ∙ ap (λ ws. take saved_words ws ++ zeros (set_words_lem - saved_words)) (drop-append-add set rest (saved_words * k))

widened-zeros : (n : ℕ) → widened (zeros (saved_words * n)) ≡ zeros (set_words_lem * n)
unfolding widened
widened-zeros zero = refl
widened-zeros (suc n) =
    let i : saved_words * suc n ≡ saved_words + saved_words * n = omega arith in
    let j : set_words_lem + set_words_lem * n ≡ set_words_lem * suc n = omega arith in
    ap (λ i. widened (zeros i)) i
    ∙ ap widened (inv (replicate-append-replicate saved_words (saved_words * n) 0))
    ∙ widened-first (zeros saved_words) (zeros (saved_words * n)) refl
    ∙ ap (λ l. zeros set_words_lem ++ l) (widened-zeros n)
    ∙ replicate-append-replicate set_words_lem (set_words_lem * n) 0
    ∙ ap zeros j

pub widened_sets : (sets : List (ℕ → Bool)) → All Small sets → (n : ℕ) → widened (all_words_by saved_words sets ++ zeros (saved_words * n)) ≡ all_words_lem sets ++ zeros (set_words_lem * n)
widened_sets [] a n = widened-zeros n
widened_sets (set ∷ sets) a n =
    ap widened (append_assoc (words_from set 0 saved_words) (all_words_by saved_words sets) (zeros (saved_words * n)))
    ∙ widened-first (words_from set 0 saved_words) (all_words_by saved_words sets ++ zeros (saved_words * n)) refl
    ∙ ap₂ ◌++◌ (inv (today set a.0)) (widened_sets sets a.1 n)
    ∙ inv (append_assoc (words_from set 0 set_words_lem) (all_words_lem sets) (zeros (set_words_lem * n)))

-- ---- the sets of a match

module _ (T : Table) (small : T.size ≤ saved_room) (cut : ℕ) (fs : List Face) where
  pub set_small : (ts : List Term) (k : ℕ) → Small (in_set T cut ts k)
  set_small ts k s l = rw (le-ltb s T.size (omega arith))
