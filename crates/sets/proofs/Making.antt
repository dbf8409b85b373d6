-- Words made one after the other, each by one operation from a word of two sets: the operation is then done to each member, since it is
-- done to each bit.
use mathlib.Core.Path.{◌≡◌, sym as inv, ap, ap₂, ◌∙◌}
use mathlib.Core.Bool.{Bool, false}
use mathlib.Core.List.{List}
use Prim.Native.Nat.{ℕ, ◌/◌, ◌%◌, ◌≤◌, ◌<◌}
use native.Mathlib.Decide.{dec_lt}
use native.Mathlib.Omega.{arith}
use lib.ListN.{length, get_or}
use Rattle.meaning.specs.Limits.{word_bits}
use Rattle.meaning.specs.Buffers.{bit, member}
use Rattle.sets.proofs.Laws.{none_past}

module _ (op : ℕ → ℕ → ℕ) (n : ℕ) (a b : List ℕ) where
  -- n words, of which those below i are made by op from the words of a and b, and those from i on are a's
  pub record Made (w : List ℕ) (i : ℕ) : Type 0 where
    pub within : i ≤ n
    pub count : length w ≡ n
    pub made : (j : ℕ) → j < i → get_or w j 0 ≡ op (get_or a j 0) (get_or b j 0)
    pub kept : (j : ℕ) → i ≤ j → get_or w j 0 ≡ get_or a j 0

  pub made_members : (g : Bool → Bool → Bool) → ((k x y : ℕ) → bit k (op x y) ≡ g (bit k x) (bit k y)) → g false false ≡ false
      → length a ≡ n → length b ≡ n → (w : List ℕ) (i : ℕ) → n ≤ i → Made w i → (k : ℕ) → member w k ≡ g (member a k) (member b k)
  unfolding member
  made_members g at-bit none la lb w i l m k = go (dec_lt (k / word_bits) n) where
    go : Dec (k / word_bits < n) → member w k ≡ g (member a k) (member b k)
    go (yes q) = ap (bit (k % word_bits)) (m.made (k / word_bits) (omega arith)) ∙ at-bit (k % word_bits) _ _
    go (no q) =
        let past : (ws : List ℕ) → length ws ≡ n → member ws k ≡ false = λ ws e. none_past n ws e k (omega arith) in
        past w m.count ∙ inv (ap₂ g (past a la) (past b lb) ∙ none)
