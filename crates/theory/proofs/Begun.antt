-- A walk that stops at a fault has begun a pattern: the terms that it has ended are there whole, that in which it stopped is there as far as the
-- walk came, and variables fill what is still open.
use mathlib.Core.Path.{◌≡◌, refl, sym as inv, ap, ◌∙◌}
use mathlib.Core.List.{List, [], ◌∷◌, ◌++◌, append_assoc, append-nil}
use mathlib.Core.Bool.{Bool, true, false, ◌&&◌, cond}
use Prim.Native.Nat.{ℕ, zero, suc, ◌+◌, ◌≤◌, ◌<◌}
use native.Mathlib.Omega.{arith}
use lib.Dec.{ltb}
use borrow.Author.Tests.{ltb-true}
use lib.ListN.{length, get_or, drop, length-append}
use lib.Seq.{drop-cons}
use Rattle.theory.specs.Tree.{Pattern, var, sym, Patterns, ∅ₚ, ◌▸◌, countₚ, encₚ, encsₚ}
use Rattle.theory.specs.Table.{Table}
use Rattle.theory.specs.Least.{All}
use Rattle.theory.specs.Read.{Walk, ends, fault, onward, several, permitted, width, walk, Fine, Fines}
use Rattle.theory.specs.Faults.{levels, levels_in}
use Rattle.theory.proofs.Lemmas.{all_append}
use Rattle.theory.proofs.Reading.{walk_stands}
use Rattle.theory.proofs.Levels.{levels_length, deep_levels, fine_any, all_symbols}

ends≢fault : (k j : ℕ) → ends k ≡ fault j → ⊥
ends≢fault k j e = let z : ◌≡◌ {A = ℕ} 0 1 = cc in omega arith

-- as many patterns as are missing
abbrev fillers : ℕ → Patterns
fillers zero = ∅ₚ
fillers (suc n) = var 0 ▸ fillers n

fillers_many : (n : ℕ) → countₚ (fillers n) ≡ n
fillers_many zero = refl
fillers_many (suc n) = ap suc (fillers_many n)

module _ (T : Table) (small : T.size ≤ 32768) (vars : Bool) where
  fillers_fine : (n : ℕ) → Fines T true (fillers n)
  fillers_fine zero = tt
  fillers_fine (suc n) = ((refl, omega arith), fillers_fine n)

  module _ (xs : List ℕ) where
    -- From index i up to index j the list has the first of these nodes, none of them deeper than 64 and none a variable where none is permitted.
    pub record Seen (nodes depths : List ℕ) (i j : ℕ) : Type 0 where
      pub seen : List ℕ
      pub unseen : List ℕ
      pub levels_seen : List ℕ
      pub levels_unseen : List ℕ
      pub nodes_are : nodes ≡ seen ++ unseen
      pub depths_are : depths ≡ levels_seen ++ levels_unseen
      pub as_many : length levels_seen ≡ length seen
      pub deep : All (λ d. d ≤ 64) levels_seen
      pub ground : vars ≡ false → All (λ x. x < T.size) seen
      pub here : drop i xs ≡ seen ++ drop j xs
      pub far : j ≡ i + length seen

    -- nothing yet
    seen_none : (nodes depths : List ℕ) (i j : ℕ) → i ≡ j → Seen nodes depths i j
    seen_none nodes depths i j e =
        record {
          seen = [];
          unseen = nodes;
          levels_seen = [];
          levels_unseen = depths;
          nodes_are = refl;
          depths_are = refl;
          as_many = refl;
          deep = tt;
          ground = λ q. tt;
          here = ap (λ k. drop k xs) e;
          far = omega arith;
        }

    -- other nodes behind
    seen_before : (nodes depths nodes' depths' : List ℕ) (i j : ℕ) → Seen nodes depths i j → Seen (nodes ++ nodes') (depths ++ depths') i j
    seen_before nodes depths nodes' depths' i j s =
        record {
          seen = s.seen;
          unseen = s.unseen ++ nodes';
          levels_seen = s.levels_seen;
          levels_unseen = s.levels_unseen ++ depths';
          nodes_are = ap (λ l. l ++ nodes') s.nodes_are ∙ append_assoc s.seen s.unseen nodes';
          depths_are = ap (λ l. l ++ depths') s.depths_are ∙ append_assoc s.levels_seen s.levels_unseen depths';
          as_many = s.as_many;
          deep = s.deep;
          ground = s.ground;
          here = s.here;
          far = s.far;
        }

    -- other nodes in front, of which the list has all
    seen_behind : (nodes depths : List ℕ) → length depths ≡ length nodes → All (λ d. d ≤ 64) depths → (vars ≡ false → All (λ x. x < T.size) nodes)
        → (i k : ℕ) → drop i xs ≡ nodes ++ drop k xs → k ≡ i + length nodes
        → (nodes' depths' : List ℕ) (j : ℕ) → Seen nodes' depths' k j → Seen (nodes ++ nodes') (depths ++ depths') i j
    seen_behind nodes depths n a g i k e f nodes' depths' j s =
        record {
          seen = nodes ++ s.seen;
          unseen = s.unseen;
          levels_seen = depths ++ s.levels_seen;
          levels_unseen = s.levels_unseen;
          nodes_are = ap (λ l. nodes ++ l) s.nodes_are ∙ inv (append_assoc nodes s.seen s.unseen);
          depths_are = ap (λ l. depths ++ l) s.depths_are ∙ inv (append_assoc depths s.levels_seen s.levels_unseen);
          as_many = omega (arith, length-append depths s.levels_seen, length-append nodes s.seen, s.as_many);
          deep = all_append (λ d. d ≤ 64) depths s.levels_seen a s.deep;
          ground = λ q. all_append (λ x. x < T.size) nodes s.seen (g q) (s.ground q);
          here = e ∙ ap (λ l. nodes ++ l) s.here ∙ inv (append_assoc nodes s.seen (drop j xs));
          far = omega (arith, length-append nodes s.seen, s.far);
        }

    -- a pattern that begins d deep at index i, seen up to index j; and a row of n patterns
    pub record Begun (d i j : ℕ) : Type 0 where
      pub pattern : Pattern
      pub fine : Fine T true pattern
      pub so_far : Seen (encₚ pattern) (levels d pattern) i j

    record BegunRow (d n i j : ℕ) : Type 0 where
      pub patterns : Patterns
      pub many : countₚ patterns ≡ n
      pub fine : Fines T true patterns
      pub so_far : Seen (encsₚ patterns) (levels_in d patterns) i j

    -- LAW: a walk that ends has begun the pattern that stands there
    pub ended_begun : (d left i j : ℕ) → d + left ≡ 65 → walk T vars xs left i ≡ ends j → Begun d i j
    ended_begun d left i j h e =
        let s = walk_stands T small vars xs left i j e in
        let p = s.pattern in
        record {
          pattern = p;
          fine = fine_any T vars p s.fine;
          so_far = record {
            seen = encₚ p;
            unseen = [];
            levels_seen = levels d p;
            levels_unseen = [];
            nodes_are = inv (append-nil (encₚ p));
            depths_are = inv (append-nil (levels d p));
            as_many = levels_length d p;
            deep = deep_levels p d 64 (omega (arith, s.deep));
            ground = all_symbols T vars p s.fine;
            here = s.here;
            far = s.far;
          };
        }

    several_begun : (d left : ℕ) → d + left ≡ 65 → ((i j : ℕ) → walk T vars xs left i ≡ fault j → Begun d i j)
        → (n i j : ℕ) → several (walk T vars xs left) n i ≡ fault j → BegunRow d n i j
    unfolding several
    several_begun d left h one zero i j e = absurd (ends≢fault i j e)
    several_begun d left h one (suc n) i j e = go (walk T vars xs left i) refl e (several_begun d left h one n)
      where
        go : (w : Walk) → walk T vars xs left i ≡ w → onward w (several (walk T vars xs left) n) ≡ fault j
            → ((i j : ℕ) → several (walk T vars xs left) n i ≡ fault j → BegunRow d n i j) → BegunRow d (suc n) i j
        go (fault k) q e more =
            let b = one i j (q ∙ e) in
            let p = b.pattern in
            record {
              patterns = p ▸ fillers n;
              many = ap suc (fillers_many n);
              fine = (b.fine, fillers_fine n);
              so_far = seen_before (encₚ p) (levels d p) (encsₚ (fillers n)) (levels_in d (fillers n)) i j b.so_far;
            }
        go (ends k) q e more =
            let s = walk_stands T small vars xs left i k q in
            let p = s.pattern in
            let r = more k j e in
            record {
              patterns = p ▸ r.patterns;
              many = ap suc r.many;
              fine = (fine_any T vars p s.fine, r.fine);
              so_far = seen_behind (encₚ p) (levels d p) (levels_length d p) (deep_levels p d 64 (omega (arith, s.deep))) (all_symbols T vars p s.fine)
                  i k s.here s.far (encsₚ r.patterns) (levels_in d r.patterns) j r.so_far;
            }

    -- LAW: a walk that stops at a fault has begun a pattern
    pub fault_begun : (d left i j : ℕ) → d + left ≡ 65 → walk T vars xs left i ≡ fault j → Begun d i j
    unfolding walk several
    fault_begun d zero i j h e =
        let q : i ≡ j = cc in
        record { pattern = var 0; fine = (refl, omega arith); so_far = seen_none (32768 ∷ []) (d ∷ []) i j q }
    fault_begun d (suc left) i j h e = go (ltb i (length xs)) refl (permitted T vars (get_or xs i 0)) refl e (fault_begun (suc d) left)
      where
        here : i ≡ j → Begun d i j
        here q = record { pattern = var 0; fine = (refl, omega arith); so_far = seen_none (32768 ∷ []) (d ∷ []) i j q }

        -- a symbol, of whose arguments one is at fault
        inner : (x : ℕ) → get_or xs i 0 ≡ x → i < length xs → (b : Bool) → ltb x T.size ≡ b
            → several (walk T vars xs left) (cond b (T.arity x) 0) (suc i) ≡ fault j
            → ((i j : ℕ) → suc d + left ≡ 65 → walk T vars xs left i ≡ fault j → Begun (suc d) i j) → Begun d i j
        inner x y l false q e one = absurd (ends≢fault (suc i) j e)
        inner x y l true q e one =
            let f = ltb-true x T.size q in
            let r = several_begun (suc d) left (omega arith) (λ i j. one i j (omega arith)) (T.arity x) (suc i) j e in
            record {
              pattern = sym x r.patterns;
              fine = (f, r.many, r.fine);
              so_far = seen_behind (x ∷ []) (d ∷ []) refl (omega arith, tt) (λ v. (f, tt)) i (suc i) (drop-cons xs i 0 l ∙ ap (λ y. y ∷ drop (suc i) xs) y) (omega arith)
                  (encsₚ r.patterns) (levels_in (suc d) r.patterns) j r.so_far;
            }

        go : (b : Bool) → ltb i (length xs) ≡ b → (t : Bool) → permitted T vars (get_or xs i 0) ≡ t
            → cond (b && t) (several (walk T vars xs left) (width T vars (get_or xs i 0)) (suc i)) (fault i) ≡ fault j
            → ((i j : ℕ) → suc d + left ≡ 65 → walk T vars xs left i ≡ fault j → Begun (suc d) i j) → Begun d i j
        go false l t q e one = here cc
        go true l false q e one = here cc
        go true l true q e one = inner (get_or xs i 0) refl (ltb-true i (length xs) l) (ltb (get_or xs i 0) T.size) refl e one
