-- What the kind of a node says of its number: the ranges of the kinds do not meet, so that each kind tells where the number lies.
use mathlib.Core.Path.{◌≡◌, refl, ◌∙◌}
use mathlib.Core.Bool.{Bool, true, false, ◌&&◌, cond}
use Prim.Native.Nat.{ℕ, ◌+◌, ◌-◌, ◌≤◌, ◌<◌}
use native.Mathlib.Decide.{dec_lt}
use native.Mathlib.Omega.{arith}
use lib.Dec.{ltb, leb}
use borrow.Author.Tests.{ltb-true, leb-true, lt-ltb, le-ltb, le-leb}
use Rattle.meaning.specs.Limits.{variable_count}
use Rattle.terms.specs.Kinds.{kind_of}
use Rattle.terms.specs.declared.kind.Kind.{Kind}
use Rattle.terms.specs.declared.kind.Kind.TheVariants.{Symbol, Variable, Neither}

module _ (s x : ℕ) where
  pub kind_symbol : x < s → Symbol x ≡ kind_of s x
  unfolding kind_of
  kind_symbol l = rw (lt-ltb x s l)

  pub kind_variable : s ≤ x → 32768 ≤ x → x < 32800 → Variable (x - 32768) ≡ kind_of s x
  unfolding kind_of
  kind_variable l lo hi = rw (le-ltb x s l, le-leb 32768 x lo, lt-ltb x 32800 hi)

  -- LAW: a node whose kind is a symbol is that symbol, and the table has it
  pub symbol_kind : (a : ℕ) → kind_of s x ≡ Symbol a → (a ≡ x) × (x < s)
  unfolding kind_of
  symbol_kind a e = go (ltb x s) refl (leb 32768 x && ltb x 32800) e
    where
      go : (b : Bool) → ltb x s ≡ b → (c : Bool) → cond b (Symbol x) (cond c (Variable (x - 32768)) Neither) ≡ Symbol a → (a ≡ x) × (x < s)
      go true l c e = (cc, ltb-true x s l)
      go false l true e = let z : ◌≡◌ {A = ℕ} 0 1 = cc in absurd (omega arith)
      go false l false e = let z : ◌≡◌ {A = ℕ} 0 1 = cc in absurd (omega arith)

  -- LAW: .. whose kind is a variable is that variable, and there are 32
  pub variable_kind : (v : ℕ) → kind_of s x ≡ Variable v → (x ≡ 32768 + v) × (v < variable_count)
  unfolding kind_of
  variable_kind v e = go (ltb x s) (leb 32768 x) refl (ltb x 32800) refl e
    where
      go : (a b : Bool) → leb 32768 x ≡ b → (c : Bool) → ltb x 32800 ≡ c → cond a (Symbol x) (cond (b && c) (Variable (x - 32768)) Neither) ≡ Variable v
          → (x ≡ 32768 + v) × (v < variable_count)
      go true b p c q e = let z : ◌≡◌ {A = ℕ} 0 1 = cc in absurd (omega arith)
      go false false p c q e = let z : ◌≡◌ {A = ℕ} 0 1 = cc in absurd (omega arith)
      go false true p false q e = let z : ◌≡◌ {A = ℕ} 0 1 = cc in absurd (omega arith)
      go false true p true q e = let w : x - 32768 ≡ v = cc in (omega (arith, leb-true 32768 x p), omega (arith, ltb-true x 32800 q))

  -- LAW: .. whose kind is neither is neither
  pub neither_kind : kind_of s x ≡ Neither → (s ≤ x) × (32768 ≤ x → x < 32800 → ⊥)
  neither_kind e = (symbols (dec_lt x s), λ lo hi. is_not (kind_variable (symbols (dec_lt x s)) lo hi ∙ e))
    where
      symbols : Dec (x < s) → s ≤ x
      symbols (yes l) = let z : ◌≡◌ {A = Kind} (Symbol x) Neither = kind_symbol l ∙ e in let w : ◌≡◌ {A = ℕ} 0 1 = cc in absurd (omega arith)
      symbols (no l) = omega arith

      is_not : {v : ℕ} → Variable v ≡ Neither → ⊥
      is_not q = let z : ◌≡◌ {A = ℕ} 0 1 = cc in omega arith
