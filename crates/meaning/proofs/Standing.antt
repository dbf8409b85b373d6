-- Which variables are packed, and in which order: those that stand in the pattern, each once, and where nothing clashes as the pattern has them;
-- so every position that is packed is one of some variable's.
use mathlib.Core.Path.{◌≡◌, refl, sym as inv, ap, ap₂, ◌∙◌}
use mathlib.Core.List.{List, [], ◌∷◌, ◌++◌}
use mathlib.Core.Bool.{Bool, true, false, cond, false≢true}
use Prim.Native.Nat.{ℕ, ◌+◌, ◌-◌, ◌≤◌, ◌<◌}
use native.Mathlib.Nat.{not-suc-le-zero}
use native.Mathlib.Decide.{dec_lt}
use native.Mathlib.Omega.{arith}
use lib.Dec.{eqb}
use borrow.Author.Tests.{eqb-true, eq-eqb}
use Rattle.theory.specs.Tree.{Term, node, Terms, ∅, ◌▹◌, Pattern, var, sym, Patterns, ∅ₚ, ◌▸◌, count, countₚ, stands, stands_in}
use Rattle.theory.specs.Table.{Table, Lawful, Over, Overs, Overₚ, Oversₚ}
use Rattle.theory.specs.Least.{All}
use Rattle.theory.specs.Faces.{Face, meets, binds, faces, faces_of}
use Rattle.theory.proofs.Lemmas.{all_left, all_right, both_false}
use Rattle.theory.proofs.Matchers.{Clear}
use Rattle.meaning.specs.Packing.{variables, without, firsts, order, sum, start_in, among}
use Rattle.meaning.specs.Matching.{standing, standings}

-- ---- a variable that does not stand in the pattern is not packed

module _ (v : ℕ) where
  none_both : (xs ys : List Face) → among v (variables xs) ≡ false → among v (variables ys) ≡ false → among v (variables (xs ++ ys)) ≡ false
  none_both [] ys e f = f
  none_both (meets a b ∷ xs) ys e f = none_both xs ys e f
  none_both (binds w t ∷ xs) ys e f = go (eqb v w) e (none_both xs ys)
    where
      go : (b : Bool) → cond b true (among v (variables xs)) ≡ false
          → (among v (variables xs) ≡ false → among v (variables ys) ≡ false → among v (variables (xs ++ ys)) ≡ false)
          → cond b true (among v (variables (xs ++ ys))) ≡ false
      go true e rest = absurd (false≢true (inv e))
      go false e rest = rest e f

  mutual
    no_face : (p : Pattern) (h : Term) → stands v p ≡ false → among v (variables (faces p h)) ≡ false
    no_face (var w) h e = rw e
    no_face (sym f ps) (node g ts) e = no_faces ps ts e

    no_faces : (ps : Patterns) (ts : Terms) → stands_in v ps ≡ false → among v (variables (faces_of ps ts)) ≡ false
    no_faces ∅ₚ ts e = refl
    no_faces (p ▸ ps) ∅ e = refl
    no_faces (p ▸ ps) (t ▹ ts) e = none_both (faces p t) (faces_of ps ts) (no_face p t (both_false (stands v p) (stands_in v ps) e).0) (no_faces ps ts (both_false (stands v p) (stands_in v ps) e).1)

  none-without : (w : ℕ) (ws : List ℕ) → among v ws ≡ false → among v (without w ws) ≡ false
  none-without w [] e = refl
  none-without w (x ∷ xs) e = go (eqb v x) refl (eqb w x) e (none-without w xs)
    where
      go : (b : Bool) → eqb v x ≡ b → (c : Bool) → cond b true (among v xs) ≡ false → (among v xs ≡ false → among v (without w xs) ≡ false)
          → among v (cond c (without w xs) (x ∷ without w xs)) ≡ false
      go true q c e rest = absurd (false≢true (inv e))
      go false q true e rest = rest e
      go false q false e rest = rw q (rest e)

  none-firsts : (vs : List ℕ) → among v vs ≡ false → among v (firsts vs) ≡ false
  none-firsts [] e = refl
  none-firsts (x ∷ xs) e = go (eqb v x) e (none-firsts xs)
    where
      go : (b : Bool) → cond b true (among v xs) ≡ false → (among v xs ≡ false → among v (firsts xs) ≡ false) → cond b true (among v (without x (firsts xs))) ≡ false
      go true e rest = absurd (false≢true (inv e))
      go false e rest = none-without x (firsts xs) (rest e)

  -- LAW
  pub absent_order : (p : Pattern) (h : Term) → stands v p ≡ false → among v (order (faces p h)) ≡ false
  absent_order p h e = none-firsts (variables (faces p h)) (no_face p h e)

  -- LAW: a variable that is packed stands in the pattern
  pub packed_stands : (p : Pattern) (h : Term) → among v (order (faces p h)) ≡ true → stands v p ≡ true
  packed_stands p h m = go (stands v p) refl
    where
      go : (b : Bool) → stands v p ≡ b → b ≡ true
      go true e = refl
      go false e = absurd (false≢true (inv (absent_order p h e) ∙ m))

-- ---- where nothing clashes the order is the pattern's own

variables_both : (xs ys : List Face) → variables (xs ++ ys) ≡ variables xs ++ variables ys
variables_both [] ys = refl
variables_both (meets a b ∷ xs) ys = variables_both xs ys
variables_both (binds w t ∷ xs) ys = ap (λ l. w ∷ l) (variables_both xs ys)

module _ (T : Table) (L : Lawful T) (c : ℕ) (pos : 0 < c) where
  mutual
    -- LAW
    pub variables_standing : (p : Pattern) (h : Term) → Overₚ T p → Over T h → All (Clear T c) (faces p h) → variables (faces p h) ≡ standing p
    variables_standing (var w) h op oh a = refl
    variables_standing (sym f ps) (node g ts) op oh a = variables_row ps ts (op.1 ∙ L.alike f g (omega (arith, a.0)) ∙ inv oh.1) op.2 oh.2 a.1

    variables_row : (ps : Patterns) (ts : Terms) → countₚ ps ≡ count ts → Oversₚ T ps → Overs T ts → All (Clear T c) (faces_of ps ts) → variables (faces_of ps ts) ≡ standings ps
    variables_row ∅ₚ ts n op oh a = refl
    variables_row (p ▸ ps) ∅ n op oh a = absurd (omega arith)
    variables_row (p ▸ ps) (t ▹ ts) n op oh a =
        variables_both (faces p t) (faces_of ps ts)
        ∙ ap₂ (λ a b. a ++ b) (variables_standing p t op.0 oh.0 (all_left (Clear T c) (faces p t) (faces_of ps ts) a))
        (variables_row ps ts (omega arith) op.1 oh.1 (all_right (Clear T c) (faces p t) (faces_of ps ts) a))

-- ---- each once, so that every position packed is one of some variable's

abbrev Once : List ℕ → Type 0
Once [] = Unit {0}
Once (v ∷ vs) = (among v vs ≡ false) × Once vs

without_once : (w : ℕ) (vs : List ℕ) → Once vs → Once (without w vs)
without_once w [] o = tt
without_once w (v ∷ vs) o = go (eqb w v) (without_once w vs o.1)
  where
    go : (b : Bool) → Once (without w vs) → Once (cond b (without w vs) (v ∷ without w vs))
    go true rest = rest
    go false rest = (none-without v w vs o.0, rest)

gone : (v : ℕ) (vs : List ℕ) → among v (without v vs) ≡ false
gone v [] = refl
gone v (w ∷ ws) = go (eqb v w) refl (gone v ws)
  where
    go : (b : Bool) → eqb v w ≡ b → among v (without v ws) ≡ false → among v (cond b (without v ws) (w ∷ without v ws)) ≡ false
    go true q rest = rest
    go false q rest = rw q rest

firsts_once : (vs : List ℕ) → Once (firsts vs)
firsts_once [] = tt
firsts_once (v ∷ vs) = (gone v (firsts vs), without_once v (firsts vs) (firsts_once vs))

module _ (count : ℕ → ℕ) where
  -- a variable whose span has the position
  pub record Owner (vs : List ℕ) (position : ℕ) : Type 0 where
    pub v : ℕ
    pub packed : among v vs ≡ true
    pub from : start_in count v vs ≤ position
    pub to : position < start_in count v vs + count v

  owner : (vs : List ℕ) → Once vs → (q : ℕ) → q < sum count vs → Owner vs q
  owner [] o q l = absurd (not-suc-le-zero l)
  owner (w ∷ ws) o q l = go (dec_lt q (count w)) (owner ws o.1 (q - count w))
    where
      same : start_in count w (w ∷ ws) ≡ 0
      same = rw (eq-eqb w w refl)

      go : Dec (q < count w) → (q - count w < sum count ws → Owner ws (q - count w)) → Owner (w ∷ ws) q
      go (yes m) rest = record { v = w; packed = rw (eq-eqb w w refl); from = omega (arith, same); to = omega (arith, same) }
      go (no m) rest = further (rest (omega arith))
        where
          further : Owner ws (q - count w) → Owner (w ∷ ws) q
          further r = at (eqb r.v w) refl
            where
              at : (b : Bool) → eqb r.v w ≡ b → Owner (w ∷ ws) q
              at true e = absurd (false≢true (inv o.0 ∙ ap (λ x. among x ws) (inv (eqb-true r.v w e)) ∙ r.packed))
              at false e =
                  let s : start_in count r.v (w ∷ ws) ≡ count w + start_in count r.v ws = rw e in
                  record { v = r.v; packed = rw e r.packed; from = omega (arith, s, r.from); to = omega (arith, s, r.to) }

  -- LAW: every position packed is one of some variable's
  pub position_owner : (fs : List Face) (q : ℕ) → q < sum count (order fs) → Owner (order fs) q
  position_owner fs q l = owner (order fs) (firsts_once (variables fs)) q l
