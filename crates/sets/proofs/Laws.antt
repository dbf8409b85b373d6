-- Laws of sets as words, for any number n of words: which symbols n words can tell of, and that the words follow from the members, since
-- each word follows from its bits.
use mathlib.Core.Path.{◌≡◌, refl, sym as inv, ap, ap₂, ◌∙◌}
use mathlib.Core.Bool.{Bool, false, ◌||◌, or-false}
use mathlib.Core.List.{List}
use Prim.Native.Nat.{ℕ, zero, suc, ◌+◌, ◌*◌, ◌/◌, ◌%◌, ◌^◌, ◌≤◌, ◌<◌}
use native.Mathlib.Decide.{ℕ_discrete}
use native.Mathlib.Omega.{arith}
use mir.Syntax.{w64}
use mir.Val.{Fits}
use borrow.Author.Tests.{eq-eqb, ne_eqb}
use lib.Dec.{eqb}
use lib.Bits.{bit_or}
use lib.Pow.{pow-lt}
use lib.Seq.{get_or-set_same, get_or-set_other, ext_get_or}
use lib.ListN.{length, get_or, set, length-set, length-replicate, get_or-eq_default}
use Rattle.meaning.specs.Limits.{word_bits}
use Rattle.meaning.specs.Packing.{words_from}
use Rattle.meaning.specs.Calls.{zeros}
use Rattle.meaning.specs.Buffers.{bit, member}
use Rattle.meaning.proofs.Bits.{bit-zero, bit_of, word_of, get_or_zeros}
use Rattle.sets.specs.Words.{Words, one_bit}
use Rattle.sets.proofs.Word.{word_is, bit_power, or_bit}

-- ---- which symbols words tell of

-- symbol 64 * j + i is bit i of word j
member-at : (ws : List ℕ) (j i : ℕ) → i < word_bits → member ws (word_bits * j + i) ≡ bit i (get_or ws j 0)
unfolding member
member-at ws j i l =
    let q : (word_bits * j + i) / word_bits ≡ j = omega arith in
    let r : (word_bits * j + i) % word_bits ≡ i = omega arith in
    ap₂ (λ (i j : ℕ). bit i (get_or ws j 0)) r q

-- LAW: two symbols of one word are the same if their bits are
pub same_bit : (j k : ℕ) → j / word_bits ≡ k / word_bits → eqb (j % word_bits) (k % word_bits) ≡ eqb j k
same_bit j k q = go (ℕ_discrete (j % word_bits) (k % word_bits))
  where
    go : Dec (j % word_bits ≡ k % word_bits) → eqb (j % word_bits) (k % word_bits) ≡ eqb j k
    go (yes r) = eq-eqb _ _ r ∙ inv (eq-eqb j k (omega arith))
    go (no r) = ne_eqb _ _ r ∙ inv (ne_eqb j k (λ e. r (ap (λ (i : ℕ). i % word_bits) e)))

-- LAW: n words tell of no symbol at or above 64 * n
pub none_past : (n : ℕ) (ws : List ℕ) → length ws ≡ n → (k : ℕ) → word_bits * n ≤ k → member ws k ≡ false
unfolding member
none_past n ws e k l =
    ap (bit (k % word_bits)) (get_or-eq_default ws 0 (omega arith)) ∙ bit-zero (k % word_bits)

pub length_from : (set : ℕ → Bool) (k n : ℕ) → length (words_from set k n) ≡ n
length_from set k zero = refl
length_from set k (suc n) = ap suc (length_from set (k + word_bits) n)

-- LAW: the members of the words made of a set are those of the set, below 64 * n
pub member-words : (set : ℕ → Bool) (n k : ℕ) → k < word_bits * n → member (words_from set 0 n) k ≡ set k
unfolding member
member-words set n k l =
    ap (bit (k % word_bits)) (word_of set 0 n (k / word_bits) (omega arith))
    ∙ bit_of set (0 + word_bits * (k / word_bits)) word_bits (k % word_bits) (omega arith)
    ∙ ap set (omega arith)

-- .. and there are none at or above it
pub member-words_past : (set : ℕ → Bool) (n k : ℕ) → word_bits * n ≤ k → member (words_from set 0 n) k ≡ false
member-words_past set n k l = none_past n (words_from set 0 n) (length_from set 0 n) k l

-- ---- words follow from their members

module _ (n : ℕ) (ws : List ℕ) (w : Words n ws) where
  -- LAW: words whose members are those of a set are the words made of that set
  pub image_of : (set : ℕ → Bool) → ((k : ℕ) → k < word_bits * n → member ws k ≡ set k) → ws ≡ words_from set 0 n
  image_of set h = ext_get_or 0 ws (words_from set 0 n) (w.count ∙ inv (length_from set 0 n)) same where
    same : (j : ℕ) → j < length ws → get_or ws j 0 ≡ get_or (words_from set 0 n) j 0
    same j l =
        let m : j < n = omega (arith, w.count) in
        word_is set (0 + word_bits * j) word_bits (get_or ws j 0) (w.fit j)
        (λ i b. inv (member-at ws j i b) ∙ h (word_bits * j + i) (omega arith) ∙ ap set (omega arith))
        ∙ inv (word_of set 0 n j m)

  -- LAW: words are made of their members
  pub image : ws ≡ words_from (member ws) 0 n
  image = image_of (member ws) (λ k l. refl)

-- LAW: the image of a set is fixed
pub same_set : (n : ℕ) (a b : List ℕ) → Words n a → Words n b → ((k : ℕ) → k < word_bits * n → member a k ≡ member b k) → a ≡ b
same_set n a b wa wb h = image_of n a wa (member b) h ∙ inv (image n b wb)

-- the field of a set in a function's proof is such words: `search (needs, words_of)`
pub words_of : (n : ℕ) (ws : List ℕ) → length ws ≡ n → ((j : ℕ) → Fits w64 (get_or ws j 0)) → Words n ws
words_of n ws e f = record { count = e; fit = λ j. (f j).fits }

-- ---- the set of no symbol, and the set of one

pub member-zeros : (n k : ℕ) → member (zeros n) k ≡ false
unfolding member
member-zeros n k = ap (bit (k % word_bits)) (get_or_zeros n (k / word_bits)) ∙ bit-zero (k % word_bits)

module _ (n k : ℕ) (l : k < word_bits * n) where
  -- the word with the bit of k, and the others
  of_word : (j : ℕ) → j ≡ k / word_bits → get_or (one_bit n k) j 0 ≡ 2 ^ (k % word_bits)
  of_word j e =
      ap (λ (i : ℕ). get_or (one_bit n k) i 0) e
      ∙ get_or-set_same (zeros n) (k / word_bits) (2 ^ (k % word_bits)) 0 (omega (arith, length-replicate {A = ℕ} n 0))

  of_other : (j : ℕ) → (j ≡ k / word_bits → ⊥) → get_or (one_bit n k) j 0 ≡ 0
  of_other j ne = get_or-set_other (zeros n) (k / word_bits) j (2 ^ (k % word_bits)) 0 ne ∙ get_or_zeros n j

  pub member_one : (j : ℕ) → member (one_bit n k) j ≡ eqb j k
  unfolding member
  member_one j = go (ℕ_discrete (j / word_bits) (k / word_bits)) where
    go : Dec (j / word_bits ≡ k / word_bits) → bit (j % word_bits) (get_or (one_bit n k) (j / word_bits) 0) ≡ eqb j k
    go (no q) =
        ap (bit (j % word_bits)) (of_other (j / word_bits) q)
        ∙ bit-zero (j % word_bits)
        ∙ inv (ne_eqb j k (λ e. q (ap (λ (i : ℕ). i / word_bits) e)))
    go (yes q) = ap (bit (j % word_bits)) (of_word (j / word_bits) q) ∙ bit_power (k % word_bits) (j % word_bits) ∙ same_bit j k q

  words_one : Words n (one_bit n k)
  words_one =
      record {
        count = length-set (zeros n) (k / word_bits) (2 ^ (k % word_bits)) ∙ length-replicate n 0;
        fit = λ j. go j (ℕ_discrete j (k / word_bits));
      } where
        go : (j : ℕ) → Dec (j ≡ k / word_bits) → get_or (one_bit n k) j 0 < 2 ^ word_bits
        go j (yes e) = omega (arith, of_word j e, pow-lt {i = k % word_bits} {j = word_bits} (omega arith))
        go j (no e) = omega (arith, of_other j e)

  -- LAW: the set of one symbol is a single bit
  pub one_image : (ws : List ℕ) → Words n ws → ((j : ℕ) → member ws j ≡ eqb j k) → ws ≡ one_bit n k
  one_image ws w h = same_set n ws (one_bit n k) w words_one (λ j m. h j ∙ inv (member_one j))

-- ---- one symbol more

-- LAW: with the bit of k set in its word, k is a member too, and all else is as it was
pub member_with : (ws : List ℕ) (k : ℕ) → k / word_bits < length ws → (j : ℕ)
    → member (set ws (k / word_bits) (bit_or (get_or ws (k / word_bits) 0) (2 ^ (k % word_bits)))) j ≡ (member ws j || eqb j k)
unfolding member
member_with ws k l j = go (ℕ_discrete (j / word_bits) (k / word_bits))
  where
    at : ℕ
    at = k / word_bits

    word : ℕ
    word = bit_or (get_or ws at 0) (2 ^ (k % word_bits))

    go : Dec (j / word_bits ≡ at) → bit (j % word_bits) (get_or (set ws at word) (j / word_bits) 0) ≡ (bit (j % word_bits) (get_or ws (j / word_bits) 0) || eqb j k)
    go (yes q) =
        rw q
        (ap (bit (j % word_bits)) (get_or-set_same ws at word 0 l)
        ∙ or_bit (j % word_bits) (get_or ws at 0) (2 ^ (k % word_bits))
        ∙ ap (λ (b : Bool). bit (j % word_bits) (get_or ws at 0) || b) (bit_power (k % word_bits) (j % word_bits) ∙ same_bit j k q))
    go (no q) =
        rw (ne_eqb j k (λ e. q (ap (λ (i : ℕ). i / word_bits) e)))
        (ap (bit (j % word_bits)) (get_or-set_other ws at (j / word_bits) word 0 q) ∙ inv (or-false _))

-- LAW: the set of no symbol is all zeros
pub empty_image : (n : ℕ) (ws : List ℕ) → Words n ws → ((k : ℕ) → member ws k ≡ false) → ws ≡ zeros n
empty_image n ws w h = same_set n ws (zeros n) w zeros-words (λ k l. h k ∙ inv (member-zeros n k)) where
  zeros-words : Words n (zeros n)
  zeros-words = record { count = length-replicate n 0; fit = λ j. omega (arith, get_or_zeros n j) }
