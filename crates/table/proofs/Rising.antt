-- Pairs rise exactly if their keys do: below 65536 a higher symbol never carries into the lower one's part of the key.
use mathlib.Core.Path.{◌≡◌, refl}
use mathlib.Core.List.{List}
use mathlib.Core.Bool.{Bool, true, false, ◌&&◌, ◌||◌, not}
use Prim.Native.Nat.{ℕ, zero, suc, ◌<◌}
use native.Mathlib.Omega.{arith}
use native.Mathlib.Decide.{dec_lt, ℕ_discrete}
use borrow.Author.Tests.{lt-ltb, le-ltb, eq-eqb, ne_eqb}
use lib.Dec.{ltb, eqb}
use lib.ListN.{get_or}
use Rattle.theory.specs.Pairs.{Pair, pair}
use Rattle.meaning.specs.Refusals.{unsound, rises, bad_pair_lem}
use Rattle.meaning.proofs.Sound.{sound_pair}
use Rattle.table.specs.Keys.{key_of, pair_key, key_before_lem}

-- the pair's higher symbol is a number of 16 bits
abbrev pub Short : Pair → Type 0
Short (pair lower higher degree) = higher < 65536

pub rises_key : (p q : Pair) → Short p → Short q → rises p q ≡ ltb (pair_key p) (pair_key q)
rises_key (pair l h d) (pair l' h' d') s s' = go (dec_lt l l') (ℕ_discrete l l') (dec_lt h h')
  where
    go : Dec (l < l') → Dec (l ≡ l') → Dec (h < h') → (ltb l l' || (eqb l l' && ltb h h')) ≡ ltb (key_of l h) (key_of l' h')
    go (yes a) b c = rw (lt-ltb l l' a, lt-ltb (key_of l h) (key_of l' h') (omega arith))
    go (no a) (yes b) (yes c) = rw (le-ltb l l' (omega arith), eq-eqb l l' b, lt-ltb h h' c, lt-ltb (key_of l h) (key_of l' h') (omega arith))
    go (no a) (yes b) (no c) = rw (le-ltb l l' (omega arith), eq-eqb l l' b, le-ltb h h' (omega arith), le-ltb (key_of l h) (key_of l' h') (omega arith))
    go (no a) (no b) c = rw (le-ltb l l' (omega arith), ne_eqb l l' b, le-ltb (key_of l h) (key_of l' h') (omega arith))

-- a pair that may be listed has a key above 0
sound_key : (arities : List ℕ) (p : Pair) → unsound arities p ≡ false → ltb 0 (pair_key p) ≡ true
sound_key arities (pair l h d) e = lt-ltb 0 (key_of l h) (omega (arith, (sound_pair arities (pair l h d) e).0))

-- LAW: a pair is good exactly if it may be listed and its key is above the one before it
pub good_pair : (arities : List ℕ) (pairs : List Pair) (k : ℕ) → ((j : ℕ) → Short (get_or pairs j (pair 0 0 0)))
    → (not (unsound arities (get_or pairs k (pair 0 0 0))) && ltb (key_before_lem pairs k) (pair_key (get_or pairs k (pair 0 0 0)))) ≡ not (bad_pair_lem arities pairs k)
good_pair arities pairs zero s = go (unsound arities (get_or pairs 0 (pair 0 0 0))) refl
  where
    go : (b : Bool) → unsound arities (get_or pairs 0 (pair 0 0 0)) ≡ b → (not b && ltb 0 (pair_key (get_or pairs 0 (pair 0 0 0)))) ≡ not (b || false)
    go true e = refl
    go false e = sound_key arities (get_or pairs 0 (pair 0 0 0)) e
good_pair arities pairs (suc k) s =
    rw (rises_key (get_or pairs k (pair 0 0 0)) (get_or pairs (suc k) (pair 0 0 0)) (s k) (s (suc k)))
    (go (unsound arities (get_or pairs (suc k) (pair 0 0 0))) (ltb (pair_key (get_or pairs k (pair 0 0 0))) (pair_key (get_or pairs (suc k) (pair 0 0 0)))))
  where
    go : (a b : Bool) → (not a && b) ≡ not (a || not b)
    go true b = refl
    go false true = refl
    go false false = refl
