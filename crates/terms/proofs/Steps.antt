-- One step of the walk, by what is asked for by the node at its index: on over so many arguments, or no further.
use mathlib.Core.Path.{◌≡◌, refl, sym}
use mathlib.Core.List.{List}
use mathlib.Core.Bool.{Bool, true, false, cond}
use mathlib.Core.Option.{none, some as just, some-ne-none, some-injective}
use Prim.Native.Nat.{ℕ, zero, suc, ◌+◌, ◌-◌, ◌<◌}
use native.Mathlib.Nat.{not-suc-le-zero}
use native.Mathlib.Numerals.{add-one}
use native.Mathlib.Omega.{arith}
use lib.Dec.{ltb}
use lib.ListN.{length, get_or}
use borrow.Author.Tests.{lt-ltb}
use Rattle.theory.specs.Table.{Table}
use Rattle.theory.specs.Read.{fault, several, permitted, width, walk}
use Rattle.terms.specs.Heads.{following}

module _ (T : Table) (vars : Bool) (xs : List ℕ) where
  -- the node at i may stand there, and n arguments follow it
  pub walk_on : (d i n : ℕ) → 0 < d → i < length xs → following T vars (get_or xs i 0) ≡ just n → several (walk T vars xs (d - 1)) n (i + 1) ≡ walk T vars xs d i
  unfolding walk following
  walk_on zero i n p l e = absurd (not-suc-le-zero p)
  walk_on (suc d) i n p l e = go (permitted T vars (get_or xs i 0)) refl e
    where
      pred : suc d - 1 ≡ d
      pred = omega arith

      go : (b : Bool) → permitted T vars (get_or xs i 0) ≡ b → cond b (just (width T vars (get_or xs i 0))) none ≡ just n
          → several (walk T vars xs (suc d - 1)) n (i + 1) ≡ walk T vars xs (suc d) i
      go true q e = rw (lt-ltb i (length xs) l, q, pred, add-one i, ← (some-injective _ _ e))
      go false q e = absurd (some-ne-none n (sym e))

  -- it may not
  pub walk_stray : (d i : ℕ) → following T vars (get_or xs i 0) ≡ none → fault i ≡ walk T vars xs d i
  unfolding walk following
  walk_stray zero i e = refl
  walk_stray (suc d) i e = go (permitted T vars (get_or xs i 0)) refl (ltb i (length xs)) refl e
    where
      go : (b : Bool) → permitted T vars (get_or xs i 0) ≡ b → (a : Bool) → ltb i (length xs) ≡ a
          → cond b (just (width T vars (get_or xs i 0))) none ≡ none → fault i ≡ walk T vars xs (suc d) i
      go true q a l e = absurd (some-ne-none _ e)
      go false q true l e = rw (l, q)
      go false q false l e = rw l
