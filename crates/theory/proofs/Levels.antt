-- The depths of a pattern's nodes: there is one for each node, and none is greater than the pattern's depth allows. And the nodes of a pattern in
-- which no variable stands are symbols.
use mathlib.Core.Path.{◌≡◌, refl, sym as inv, ap}
use mathlib.Core.Bool.{Bool, true, false, false≢true}
use Prim.Native.Nat.{ℕ, suc, ◌+◌, ◌≤◌, ◌<◌}
use native.Mathlib.Omega.{arith}
use lib.ListN.{length, length-append}
use Rattle.theory.specs.Tree.{Pattern, var, sym, Patterns, ∅ₚ, ◌▸◌, encₚ, encsₚ}
use Rattle.theory.specs.Table.{Table}
use Rattle.theory.specs.Least.{All}
use Rattle.theory.specs.Read.{Fine, Fines, depth, depths}
use Rattle.theory.specs.Faults.{levels, levels_in}
use Rattle.theory.proofs.Lemmas.{all_append, all_left, all_right}

mutual
  pub levels_length : (d : ℕ) (p : Pattern) → length (levels d p) ≡ length (encₚ p)
  levels_length d (var v) = refl
  levels_length d (sym f ps) = ap suc (levels_in_length (suc d) ps)

  pub levels_in_length : (d : ℕ) (ps : Patterns) → length (levels_in d ps) ≡ length (encsₚ ps)
  levels_in_length d ∅ₚ = refl
  levels_in_length d (p ▸ ps) =
      omega (arith, length-append (levels d p) (levels_in d ps), length-append (encₚ p) (encsₚ ps), levels_length d p, levels_in_length d ps)

-- LAW: a pattern that begins d deep has its nodes at most m deep exactly if its depth allows it
mutual
  pub deep_levels : (p : Pattern) (d m : ℕ) → d + depth p ≤ suc m → All (λ k. k ≤ m) (levels d p)
  deep_levels (var v) d m l = (omega arith, tt)
  deep_levels (sym f ps) d m l = (omega arith, deep_levels_in ps (suc d) m (omega arith))

  deep_levels_in : (ps : Patterns) (d m : ℕ) → d + depths ps ≤ suc m → All (λ k. k ≤ m) (levels_in d ps)
  deep_levels_in ∅ₚ d m l = tt
  deep_levels_in (p ▸ ps) d m l =
      all_append (λ k. k ≤ m) (levels d p) (levels_in d ps) (deep_levels p d m (omega arith)) (deep_levels_in ps d m (omega arith))

mutual
  pub levels_deep : (p : Pattern) (d m : ℕ) → All (λ k. k ≤ m) (levels d p) → d + depth p ≤ suc m
  levels_deep (var v) d m a = omega (arith, a.0)
  levels_deep (sym f ps) d m a = omega (arith, levels_in_deep ps (suc d) m (omega (arith, a.0)) a.1)

  levels_in_deep : (ps : Patterns) (d m : ℕ) → d ≤ suc m → All (λ k. k ≤ m) (levels_in d ps) → d + depths ps ≤ suc m
  levels_in_deep ∅ₚ d m l a = omega arith
  levels_in_deep (p ▸ ps) d m l a =
      omega (
        arith,
        levels_deep p d m (all_left (λ k. k ≤ m) (levels d p) (levels_in d ps) a),
        levels_in_deep ps d m l (all_right (λ k. k ≤ m) (levels d p) (levels_in d ps) a),
      )

-- ---- where no variable is permitted

module _ (T : Table) (vars : Bool) where
  mutual
    -- a pattern that may be written may be written where variables are permitted
    pub fine_any : (p : Pattern) → Fine T vars p → Fine T true p
    fine_any (var v) o = (refl, o.1)
    fine_any (sym f ps) o = (o.0, o.1, fines_any ps o.2)

    pub fines_any : (ps : Patterns) → Fines T vars ps → Fines T true ps
    fines_any ∅ₚ o = tt
    fines_any (p ▸ ps) o = (fine_any p o.0, fines_any ps o.1)

module _ (T : Table) where
  mutual
    fine_symbols : (p : Pattern) → Fine T false p → All (λ x. x < T.size) (encₚ p)
    fine_symbols (var v) o = absurd (false≢true o.0)
    fine_symbols (sym f ps) o = (o.0, fines_symbols ps o.2)

    fines_symbols : (ps : Patterns) → Fines T false ps → All (λ x. x < T.size) (encsₚ ps)
    fines_symbols ∅ₚ o = tt
    fines_symbols (p ▸ ps) o = all_append (λ x. x < T.size) (encₚ p) (encsₚ ps) (fine_symbols p o.0) (fines_symbols ps o.1)

  -- LAW: where variables are not permitted the nodes are symbols
  pub all_symbols : (vars : Bool) (p : Pattern) → Fine T vars p → vars ≡ false → All (λ x. x < T.size) (encₚ p)
  all_symbols true p o e = absurd (false≢true (inv e))
  all_symbols false p o e = fine_symbols p o

  module _ (small : T.size ≤ 32768) where
    mutual
      symbols_fine : (p : Pattern) → Fine T true p → All (λ x. x < T.size) (encₚ p) → Fine T false p
      symbols_fine (var v) o a = absurd (omega (arith, a.0))
      symbols_fine (sym f ps) o a = (o.0, o.1, symbols_fines ps o.2 a.1)

      symbols_fines : (ps : Patterns) → Fines T true ps → All (λ x. x < T.size) (encsₚ ps) → Fines T false ps
      symbols_fines ∅ₚ o a = tt
      symbols_fines (p ▸ ps) o a =
          (symbols_fine p o.0 (all_left (λ x. x < T.size) (encₚ p) (encsₚ ps) a), symbols_fines ps o.1 (all_right (λ x. x < T.size) (encₚ p) (encsₚ ps) a))

    -- LAW: and a pattern whose nodes are symbols may be written there
    pub ground_fine : (vars : Bool) (p : Pattern) → Fine T true p → (vars ≡ false → All (λ x. x < T.size) (encₚ p)) → Fine T vars p
    ground_fine true p o g = o
    ground_fine false p o g = symbols_fine p o (g refl)
