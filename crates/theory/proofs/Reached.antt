-- A walk does not stop among the first nodes of a pattern that are permitted and not too deep: each takes it on, whatever the list has behind them.
use mathlib.Core.Path.{◌≡◌, refl, ap, ◌∙◌, subst}
use mathlib.Core.List.{List, [], ◌∷◌, ◌++◌, append_assoc}
use mathlib.Core.Bool.{Bool, true, false, ◌&&◌, cond}
use Prim.Native.Nat.{ℕ, zero, suc, ◌+◌, ◌-◌, ◌≤◌, ◌<◌}
use native.Mathlib.Numerals.{add-one}
use native.Mathlib.Decide.{dec_le}
use native.Mathlib.Omega.{arith}
use lib.Dec.{ltb}
use borrow.Author.Tests.{lt-ltb, le-ltb}
use lib.ListN.{length, get_or, take, drop, length-append}
use lib.Seq.{take-append-le, take-append-add}
use Rattle.theory.specs.Tree.{Pattern, var, sym, Patterns, ∅ₚ, ◌▸◌, countₚ, encₚ, encsₚ}
use Rattle.theory.specs.Table.{Table}
use Rattle.theory.specs.Least.{All}
use Rattle.theory.specs.Read.{Walk, ends, fault, onward, several, permitted, width, walk, Fine, Fines}
use Rattle.theory.specs.Faults.{levels, levels_in}
use Rattle.theory.proofs.Lemmas.{all_left, all_right}
use Rattle.theory.proofs.Reading.{drop_part, permitted_symbol, permitted_variable, step, walk_enc}
use Rattle.theory.proofs.Levels.{levels_length, levels_deep, ground_fine}

-- the index at which a walk stops, at its end or at a fault
abbrev pub stop : Walk → ℕ
stop (ends j) = j
stop (fault j) = j

-- ---- a walk does not go back

onward_far : (w : Walk) (k : ℕ → Walk) → ((i : ℕ) → i ≤ stop (k i)) → stop w ≤ stop (onward w k)
onward_far (ends j) k far = far j
onward_far (fault j) k far = omega arith

several_far : (one : ℕ → Walk) → ((i : ℕ) → i ≤ stop (one i)) → (n i : ℕ) → i ≤ stop (several one n i)
unfolding several
several_far one far zero i = omega arith
several_far one far (suc n) i = omega (arith, far i, onward_far (one i) (several one n) (several_far one far n))

module _ (T : Table) (vars : Bool) (xs : List ℕ) where
  walk_far : (d i : ℕ) → i ≤ stop (walk T vars xs d i)
  unfolding walk
  walk_far zero i = omega arith
  walk_far (suc d) i = go (ltb i (length xs) && permitted T vars (get_or xs i 0)) (several_far (walk T vars xs d) (walk_far d) (width T vars (get_or xs i 0)) (suc i))
    where
      go : (b : Bool) → suc i ≤ stop (several (walk T vars xs d) (width T vars (get_or xs i 0)) (suc i))
          → i ≤ stop (cond b (several (walk T vars xs d) (width T vars (get_or xs i 0)) (suc i)) (fault i))
      go true l = omega arith
      go false l = omega arith

-- ---- the first nodes of a pattern take it on

module _ (T : Table) (small : T.size ≤ 32768) (vars : Bool) (xs : List ℕ) where
  -- From index i on the list has the first n of these nodes, none of them deeper than 64 and none a variable where none is permitted.
  pub record Front (nodes depths : List ℕ) (i n : ℕ) : Type 0 where
    pub rest : List ℕ
    pub here : drop i xs ≡ take n nodes ++ rest
    pub enough : n ≤ length nodes
    pub deep : All (λ d. d ≤ 64) (take n depths)
    pub ground : vars ≡ false → All (λ x. x < T.size) (take n nodes)

  -- so few that they are in the first part
  front_part : (nodes depths nodes' depths' : List ℕ) → length depths ≡ length nodes → (i n : ℕ) → n ≤ length nodes
      → Front (nodes ++ nodes') (depths ++ depths') i n → Front nodes depths i n
  front_part nodes depths nodes' depths' same i n l f =
      let e = take-append-le n nodes nodes' l in
      record {
        rest = f.rest;
        here = f.here ∙ ap (λ k. k ++ f.rest) e;
        enough = l;
        deep = subst (All (λ d. d ≤ 64)) (take-append-le n depths depths' (omega arith)) f.deep;
        ground = λ q. subst (All (λ x. x < T.size)) e (f.ground q);
      }

  -- the first part whole, and so many of the second
  pub record Parted (nodes depths nodes' depths' : List ℕ) (i m : ℕ) : Type 0 where
    pub after : List ℕ
    pub here : drop i xs ≡ nodes ++ after
    pub deep : All (λ d. d ≤ 64) depths
    pub ground : vars ≡ false → All (λ x. x < T.size) nodes
    pub behind : Front nodes' depths' (i + length nodes) m

  front_parts : (nodes depths nodes' depths' : List ℕ) → length depths ≡ length nodes → (i n m : ℕ) → n ≡ length nodes + m
      → Front (nodes ++ nodes') (depths ++ depths') i n → Parted nodes depths nodes' depths' i m
  front_parts nodes depths nodes' depths' same i n m l f =
      let e : take n (nodes ++ nodes') ≡ nodes ++ take m nodes' = ap (λ k. take k (nodes ++ nodes')) l ∙ take-append-add nodes nodes' m in
      let k : n ≡ length depths + m = omega arith in
      let e' : take n (depths ++ depths') ≡ depths ++ take m depths' = ap (λ k. take k (depths ++ depths')) k ∙ take-append-add depths depths' m in
      let h : drop i xs ≡ nodes ++ (take m nodes' ++ f.rest) = f.here ∙ ap (λ l. l ++ f.rest) e ∙ append_assoc nodes (take m nodes') f.rest in
      let a = subst (All (λ d. d ≤ 64)) e' f.deep in
      let g : vars ≡ false → All (λ x. x < T.size) (nodes ++ take m nodes') = λ q. subst (All (λ x. x < T.size)) e (f.ground q) in
      record {
        after = take m nodes' ++ f.rest;
        here = h;
        deep = all_left (λ d. d ≤ 64) depths (take m depths') a;
        ground = λ q. all_left (λ x. x < T.size) nodes (take m nodes') (g q);
        behind = record {
          rest = f.rest;
          here = drop_part xs i nodes (take m nodes' ++ f.rest) h;
          enough = omega (arith, f.enough, length-append nodes nodes');
          deep = all_right (λ d. d ≤ 64) depths (take m depths') a;
          ground = λ q. all_right (λ x. x < T.size) nodes (take m nodes') (g q);
        };
      }

  -- a variable among them is permitted
  is_permitted : (v : ℕ) → v < 32 → (vars ≡ false → 32768 + v < T.size) → permitted T vars (32768 + v) ≡ true
  is_permitted v l g = go vars refl
    where
      go : (b : Bool) → vars ≡ b → permitted T vars (32768 + v) ≡ true
      go true e = permitted_variable T small vars v e l
      go false e = absurd (omega (arith, g e))

  mutual
    unfolding walk several

    -- LAW: the first n nodes of a pattern that begins d deep at index i take a walk over them
    pub reach : (p : Pattern) (d left : ℕ) → d + left ≡ 65 → Fine T true p → (i n : ℕ) → Front (encₚ p) (levels d p) i n → i + n ≤ stop (walk T vars xs left i)
    reach (var v) d left h o i zero f = omega (arith, walk_far T vars xs left i)
    reach (var v) d zero h o i (suc n) f = absurd (omega (arith, f.deep.0))
    reach (var v) d (suc left) h o i (suc n) f =
        rw (step T small vars xs left i (32768 + v) _ f.here (is_permitted v o.1 (λ q. (f.ground q).0)), le-ltb (32768 + v) T.size (omega arith)) (omega (arith, f.enough))
    reach (sym x ps) d left h o i zero f = omega (arith, walk_far T vars xs left i)
    reach (sym x ps) d zero h o i (suc n) f = absurd (omega (arith, f.deep.0))
    reach (sym x ps) d (suc left) h o i (suc n) f =
        let r = front_parts (x ∷ []) (d ∷ []) (encsₚ ps) (levels_in (suc d) ps) refl i (suc n) n (omega arith) f in
        rw (step T small vars xs left i x _ f.here (permitted_symbol T small vars x o.0), lt-ltb x T.size o.0, ← o.1)
        (omega (arith, reach_row ps (suc d) left (omega arith) o.2 (suc i) n (rw add-one at r.behind)))

    reach_row : (ps : Patterns) (d left : ℕ) → d + left ≡ 65 → Fines T true ps → (i n : ℕ) → Front (encsₚ ps) (levels_in d ps) i n
        → i + n ≤ stop (several (walk T vars xs left) (countₚ ps) i)
    reach_row ∅ₚ d left h o i n f = omega (arith, f.enough)
    reach_row (p ▸ ps) d left h o i n f = go (dec_le n (length (encₚ p))) (λ f. reach p d left h o.0 i n f) (λ i n f. reach_row ps d left h o.1 i n f)
      where
        go : Dec (n ≤ length (encₚ p)) → (Front (encₚ p) (levels d p) i n → i + n ≤ stop (walk T vars xs left i))
            → ((i n : ℕ) → Front (encsₚ ps) (levels_in d ps) i n → i + n ≤ stop (several (walk T vars xs left) (countₚ ps) i))
            → i + n ≤ stop (onward (walk T vars xs left i) (several (walk T vars xs left) (countₚ ps)))
        go (yes l) one more =
            let r = one (front_part (encₚ p) (levels d p) (encsₚ ps) (levels_in d ps) (levels_length d p) i n l f) in
            omega (arith, onward_far (walk T vars xs left i) (several (walk T vars xs left) (countₚ ps)) (several_far (walk T vars xs left) (walk_far T vars xs left) (countₚ ps)))
        go (no l) one more =
            let m = n - length (encₚ p) in
            let r = front_parts (encₚ p) (levels d p) (encsₚ ps) (levels_in d ps) (levels_length d p) i n m (omega arith) f in
            let b = levels_deep p d 64 r.deep in
            rw (walk_enc T small vars xs p left (omega arith) (ground_fine T small vars p o.0 r.ground) i r.after r.here)
            (omega (arith, more (i + length (encₚ p)) m r.behind))
