-- The place at which a list is refused. Up to where the walk stops its nodes begin a term, for the walk has begun one; and if they began one with the
-- node there too, the walk would have passed that node. So it stops at the fault, and a list has one fault at most.
use mathlib.Core.Path.{◌≡◌, refl, sym as inv, ap, ◌∙◌, subst}
use mathlib.Core.Logic.{◌↔◌, inl, inr}
use mathlib.Core.List.{List, ◌++◌}
use mathlib.Core.Bool.{Bool}
use Prim.Native.Nat.{ℕ, suc, ◌≤◌, ◌<◌}
use native.Mathlib.Decide.{dec_lt, ℕ_discrete}
use native.Mathlib.Omega.{arith}
use borrow.Author.Tests.{lt-ltb, le-ltb, eq-eqb, ne_eqb}
use lib.ListN.{length, take, drop, length-append, length-take, take-append-drop}
use lib.Seq.{take_at, take-take, length-take-le}
use Rattle.theory.specs.Tree.{encₚ}
use Rattle.theory.specs.Table.{Table}
use Rattle.theory.specs.Least.{All}
use Rattle.theory.specs.Read.{Walk, ends, fault, walk, Reading, whole, faulty, closed, reading}
use Rattle.theory.specs.Faults.{levels, Begins, FaultAt, FaultPlace}
use Rattle.theory.proofs.Lemmas.{all_left}
use Rattle.theory.proofs.Begun.{Begun, ended_begun, fault_begun}
use Rattle.theory.proofs.Reached.{stop, Front, reach}
use Rattle.theory.proofs.Decoding.{faulty≢whole, read_whole, whole_of}

-- LAW: a list of more than 1,024 nodes is refused at 1024
pub too_long : (T : Table) (vars : Bool) (list : List ℕ) → 1024 < length list → reading T vars list ≡ faulty 1024
too_long T vars list l = rw (lt-ltb 1024 (length list) l)

faulty_one : (j k : ℕ) → faulty j ≡ faulty k → j ≡ k
faulty_one j k e = cc

-- the fault of a list that is not too long is where the walk stops
closed-stop : (n : ℕ) (w : Walk) (j : ℕ) → closed n w ≡ faulty j → stop w ≡ j
closed-stop n (fault i) j e = cc
closed-stop n (ends i) j e = go (ℕ_discrete i n)
  where
    go : Dec (i ≡ n) → i ≡ j
    go (yes q) = absurd (faulty≢whole j (inv e ∙ rw (eq-eqb i n q)))
    go (no q) = faulty_one i j (rw (ne_eqb i n q) at e)

all_take : (P : ℕ → Type 0) (m : ℕ) (xs : List ℕ) → All P xs → All P (take m xs)
all_take P m xs a = all_left P (take m xs) (drop m xs) (rw (take-append-drop m xs) a)

module _ (T : Table) (vars : Bool) where
  -- fewer nodes begin a term if more do
  begins_fewer : (nodes : List ℕ) (m : ℕ) → m ≤ length nodes → Begins T vars nodes → Begins T vars (take m nodes)
  begins_fewer nodes m l b =
      let n : length (take m nodes) ≡ m = length-take-le m nodes l in
      let p = b.pattern in
      record {
        pattern = p;
        fine = b.fine;
        begins_with = ap (λ k. take k (encₚ p)) n ∙ inv (take-take m (length nodes) (encₚ p) l) ∙ ap (take m) b.begins_with;
        deep = rw n (subst (All (λ d. d ≤ 64)) (take-take m (length nodes) (levels 1 p) l) (all_take (λ d. d ≤ 64) m (take (length nodes) (levels 1 p)) b.deep));
        ground = λ q. all_take (λ x. x < T.size) m nodes (b.ground q);
      }

  -- LAW: a list has one fault at most
  pub one_fault : (list : List ℕ) (j k : ℕ) → FaultAt T vars list j → FaultAt T vars list k → j ≡ k
  one_fault list j k a b = go (dec_lt j k) (dec_lt k j)
    where
      less : (j k : ℕ) → FaultAt T vars list j → FaultAt T vars list k → j < k → ⊥
      less j k a b l =
          let n : length (take k list) ≡ k = length-take-le k list b.inside in
          a.no_further (omega (arith, b.inside)) (rw (take-take (suc j) k list l) at (begins_fewer (take k list) (suc j) (omega arith) b.begins))

      go : Dec (j < k) → Dec (k < j) → j ≡ k
      go (yes l) r = absurd (less j k a b l)
      go (no l) (yes r) = absurd (less k j b a r)
      go (no l) (no r) = omega arith

module _ (T : Table) (small : T.size ≤ 32768) (vars : Bool) (list : List ℕ) where
  -- the nodes up to where the walk stops begin a term
  begun : (j : ℕ) → stop (walk T vars list 64 0) ≡ j → Begun T small vars list 1 0 j
  begun j e = go (walk T vars list 64 0) refl e
    where
      go : (w : Walk) → walk T vars list 64 0 ≡ w → stop w ≡ j → Begun T small vars list 1 0 j
      go (ends i) q e = ended_begun T small vars list 1 64 0 j (omega arith) (q ∙ ap ends e)
      go (fault i) q e = fault_begun T small vars list 1 64 0 j (omega arith) (q ∙ ap fault e)

  begun_begins : (j : ℕ) → Begun T small vars list 1 0 j → Begins T vars (take j list)
  begun_begins j b =
      let p = b.pattern in
      let s = b.so_far in
      let e : take j list ≡ s.seen = ap (take j) s.here ∙ take_at s.seen (drop j list) j (omega (arith, s.far)) in
      rw e
      (record {
        pattern = p;
        fine = b.fine;
        begins_with = ap (take (length s.seen)) s.nodes_are ∙ take_at s.seen s.unseen (length s.seen) refl;
        deep = subst (All (λ d. d ≤ 64)) (inv (ap (take (length s.seen)) s.depths_are ∙ take_at s.levels_seen s.levels_unseen (length s.seen) s.as_many)) s.deep;
        ground = s.ground;
      })

  -- where they begin one with the node at j too, the walk passes j
  passes : (j : ℕ) → j < length list → Begins T vars (take (suc j) list) → suc j ≤ stop (walk T vars list 64 0)
  passes j l b = omega (arith, reach T small vars list b.pattern 1 64 (omega arith) b.fine 0 (suc j) front)
    where
      n : length (take (suc j) list) ≡ suc j
      n = length-take-le (suc j) list l

      e : take (suc j) (encₚ b.pattern) ≡ take (suc j) list
      e = rw n at b.begins_with

      front : Front T small vars list (encₚ b.pattern) (levels 1 b.pattern) 0 (suc j)
      front =
          record {
            rest = drop (suc j) list;
            here = inv (take-append-drop (suc j) list) ∙ ap (λ l. l ++ drop (suc j) list) (inv e);
            enough = omega (arith, n, ap length e, length-take (suc j) (encₚ b.pattern));
            deep = rw n at b.deep;
            ground = λ q. subst (All (λ x. x < T.size)) (inv e) (b.ground q);
          }

  -- LAW: a list that is not too long is refused at its fault
  pub at_fault : length list ≤ 1024 → (j : ℕ) → reading T vars list ≡ faulty j → FaultAt T vars list j
  at_fault l j e =
      let c : closed (length list) (walk T vars list 64 0) ≡ faulty j = rw (le-ltb 1024 (length list) l) at e in
      let q = closed-stop (length list) (walk T vars list 64 0) j c in
      let b = begun j q in
      let s = b.so_far in
      record {
        inside = omega (arith, s.far, ap length s.here, length-append s.seen (drop j list));
        begins = begun_begins j b;
        no_further = λ l b. omega (arith, passes j l b);
        no_term = λ p o d is. faulty≢whole j (inv e ∙ ap (reading T vars) is ∙ whole_of T small vars p o d (omega (arith, ap length is)));
      }

  pub fault_at : length list ≤ 1024 → (j : ℕ) → FaultAt T vars list j → reading T vars list ≡ faulty j
  fault_at l j f = go (reading T vars list) refl
    where
      go : (r : Reading) → reading T vars list ≡ r → reading T vars list ≡ faulty j
      go whole e = let w = read_whole T small vars list e in absurd (f.no_term w.pattern w.fine w.deep w.is)
      go (faulty k) e = e ∙ ap faulty (one_fault T vars list k j (at_fault l k e) f)

  -- THEOREM: the place of a list that is no term
  pub places : (j : ℕ) → reading T vars list ≡ faulty j ↔ FaultPlace T vars list j
  places j = (there (dec_lt 1024 (length list)), back)
    where
      there : Dec (1024 < length list) → reading T vars list ≡ faulty j → FaultPlace T vars list j
      there (yes l) e = inl (l, faulty_one j 1024 (inv e ∙ too_long T vars list l))
      there (no l) e = inr (omega arith, at_fault (omega arith) j e)

      back : FaultPlace T vars list j → reading T vars list ≡ faulty j
      back (inl r) = too_long T vars list r.0 ∙ ap faulty (inv r.1)
      back (inr r) = fault_at r.0 j r.1
