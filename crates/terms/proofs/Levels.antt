-- A list read in one pass. What is left to be read comes to the walk over the subterms left on the innermost level, then over those of the one around
-- it, and so on outwards. A node takes one subterm of its level and opens a level for its own, so that all of it stays what the walk over the term is.
use mathlib.Core.Path.{◌≡◌, refl, sym, ap, ◌∙◌}
use mathlib.Core.List.{List}
use mathlib.Core.Bool.{Bool}
use mathlib.Core.Option.{none, some as just}
use Prim.Native.Nat.{ℕ, zero, suc, ◌+◌, ◌-◌, ◌≤◌, ◌<◌}
use native.Mathlib.Nat.{not-suc-le-zero}
use native.Mathlib.Numerals.{add-one}
use native.Mathlib.Decide.{dec_lt}
use native.Mathlib.Omega.{arith}
use lib.ListN.{length, get_or, set, take, length-set}
use Rattle.std.proofs.lemmas.List.{length-take, get_or-take}
use lib.Seq.{get_or-set_same, get_or-set_other}
use Rattle.theory.specs.Table.{Table}
use Rattle.theory.specs.Read.{Walk, ends, fault, onward, several, walk}
use Rattle.theory.proofs.Steps.{walk_deep, walk_past, several-stop, several_done}
use Rattle.terms.specs.Heads.{following}
use Rattle.terms.specs.Levels.{StayOpen}
use Rattle.terms.proofs.Steps.{walk_on, walk_stray}

-- one subterm, and then the others
first_of : (f : ℕ → Walk) (n i : ℕ) → 0 < n → several f n i ≡ onward (f i) (several f (n - 1))
unfolding several
first_of f zero i l = absurd (not-suc-le-zero l)
first_of f (suc n) i l = let e : suc n - 1 ≡ n = omega arith in rw e

-- none after the last
last_of : (f : ℕ → Walk) (w : Walk) → onward w (several f 0) ≡ w
unfolding several
last_of f (ends j) = refl
last_of f (fault j) = refl

-- what holds of the first levels by themselves holds of them in the list of all
stays_open : (outer : List ℕ) (depth kept : ℕ) → depth ≤ length outer → StayOpen (take depth outer) (length (take depth outer)) kept → StayOpen outer depth kept
stays_open outer depth kept l o =
    let e : length (take depth outer) ≡ depth = omega (arith, length-take depth outer) in
    record {
      within = omega (arith, o.within);
      done = λ d a b. sym (get_or-take depth outer d 0 b) ∙ o.done d a (omega arith);
      last = λ p. omega (arith, o.last p, get_or-take depth outer (kept - 1) 0 (omega (arith, o.within)));
    }

module _ (T : Table) (vars : Bool) (xs : List ℕ) where
  -- The walk over a term on a level inside d others: the whole term is at most 64 deep.
  abbrev inside : ℕ → ℕ → Walk
  inside d = walk T vars xs (64 - d)

  -- A walk on a level inside d others, and on over the subterms left on each of them, the innermost first.
  abbrev outwards : List ℕ → ℕ → Walk → Walk
  outwards outer zero w = w
  outwards outer (suc d) w = outwards outer d (onward w (several (inside d) (get_or outer d 0)))

  -- With `here` subterms to be read from index `at` on, inside `depth` levels, all that is left comes to what the walk over the whole term does.
  abbrev Rest : List ℕ → ℕ → ℕ → ℕ → Type 0
  Rest outer depth here at = outwards outer depth (several (inside depth) here at) ≡ walk T vars xs 64 0

  -- .. and the next node is on the level at hand.
  pub record ToRead (outer : List ℕ) (depth here at : ℕ) : Type 0 where
    pub levels : length outer ≡ 64
    pub shallow : depth < 64
    pub within : at ≤ length xs
    pub some : 0 < here
    pub rest : Rest outer depth here at

  -- a fault inside is a fault outside
  outwards_fault : (outer : List ℕ) (d j : ℕ) → outwards outer d (fault j) ≡ fault j
  outwards_fault outer zero j = refl
  outwards_fault outer (suc d) j = outwards_fault outer d j

  -- what is left on a level further in does not matter
  outwards_set : (outer : List ℕ) (d i v : ℕ) (w : Walk) → d ≤ i → outwards (set outer i v) d w ≡ outwards outer d w
  outwards_set outer zero i v w l = refl
  outwards_set outer (suc d) i v w l = rw (get_or-set_other outer i d v 0 (λ e. omega arith)) (outwards_set outer d i v _ (omega arith))

  module _ (outer : List ℕ) (at : ℕ) where
    -- from a level that is done the reading goes on in the one around it
    around : (depth : ℕ) → 0 < depth → Rest outer depth 0 at → Rest outer (depth - 1) (get_or outer (depth - 1) 0) at
    unfolding several
    around zero l rest = absurd (not-suc-le-zero l)
    around (suc d) l rest = let e : suc d - 1 ≡ d = omega arith in rw e rest

    -- .. and so out of each that is done
    out_of_all : (depth kept : ℕ) → StayOpen outer depth kept → Rest outer depth 0 at → Rest outer kept 0 at
    out_of_all zero kept o rest = let e : kept ≡ 0 = omega (arith, o.within) in rw e rest
    out_of_all (suc d) kept o rest = go (dec_lt d kept) (out_of_all d kept)
      where
        go : Dec (d < kept) → (StayOpen outer d kept → Rest outer d 0 at → Rest outer kept 0 at) → Rest outer kept 0 at
        go (yes l) again = let e : kept ≡ suc d = omega (arith, o.within) in rw e rest
        go (no l) again =
            let fewer : StayOpen outer d kept = record { within = omega arith; done = λ i a b. o.done i a (omega arith); last = o.last } in
            let e : suc d - 1 ≡ d = omega arith in
            again fewer (rw (e, o.done d (omega arith) (omega arith)) at (around (suc d) (omega arith) rest))

  -- LAW: before the first node one term is to be read
  pub first_node : (outer : List ℕ) → length outer ≡ 64 → ToRead outer 0 1 0
  first_node outer e =
      let one : Rest outer 0 1 0 = first_of (inside 0) 1 0 (omega arith) ∙ last_of (inside 0) _ in
      record { levels = e; shallow = omega arith; within = omega arith; some = omega arith; rest = one }

  module _ (outer : List ℕ) (depth here at : ℕ) (r : ToRead outer depth here at) where
    -- a fault of what is left here
    fault_here : (j : ℕ) → fault j ≡ several (inside depth) here at → fault j ≡ walk T vars xs 64 0
    fault_here j e = sym (outwards_fault outer depth j) ∙ ap (outwards outer depth) e ∙ r.rest

    -- LAW: where the list ends, or the node may not stand, is the fault
    pub list_ends_lem : length xs ≤ at → fault at ≡ walk T vars xs 64 0
    list_ends_lem l = fault_here at (several-stop _ here at at r.some (sym (walk_past T vars xs (64 - depth) at l)))

    pub node_strays : following T vars (get_or xs at 0) ≡ none → fault at ≡ walk T vars xs 64 0
    node_strays e = fault_here at (several-stop _ here at at r.some (sym (walk_stray T vars xs (64 - depth) at e)))

    module _ (n : ℕ) (l : at < length xs) (takes : following T vars (get_or xs at 0) ≡ just n) where
      -- the node's own subterms first, and then what is left here
      taken : onward (several (walk T vars xs (64 - depth - 1)) n (at + 1)) (several (inside depth) (here - 1)) ≡ several (inside depth) here at
      taken =
          ap (λ w. onward w (several (inside depth) (here - 1))) (walk_on T vars xs (64 - depth) at n (omega (arith, r.shallow)) l takes)
          ∙ sym (first_of (inside depth) here at r.some)

      -- LAW: a node with arguments opens a level
      pub level_opens : depth < 63 → 0 < n → ToRead (set outer depth (here - 1)) (depth + 1) n (at + 1)
      level_opens m p = record { levels = length-set outer depth (here - 1) ∙ r.levels; shallow = omega arith; within = omega arith; some = p; rest = rest }
        where
          rest : Rest (set outer depth (here - 1)) (depth + 1) n (at + 1)
          rest =
              let room : depth < length outer = omega (arith, r.levels) in
              let e : 64 - suc depth ≡ 64 - depth - 1 = omega arith in
              rw (add-one depth, get_or-set_same outer depth (here - 1) 0 room, e)
              (outwards_set outer depth depth (here - 1) _ (omega arith) ∙ ap (outwards outer depth) taken ∙ r.rest)

      -- LAW: .. for which the term is too deep
      pub too_deep : depth ≡ 63 → 0 < n → fault (at + 1) ≡ walk T vars xs 64 0
      too_deep d p =
          let deep = walk_deep T vars xs (64 - depth - 1) (at + 1) (omega arith) in
          fault_here (at + 1) (ap (λ w. onward w (several (inside depth) (here - 1))) (several-stop _ n (at + 1) (at + 1) p (sym deep)) ∙ taken)

      module _ (none : n ≡ 0) where
        -- after a lone node the others of its level are left
        others : Rest outer depth (here - 1) (at + 1)
        others =
            ap (λ w. outwards outer depth (onward w (several (inside depth) (here - 1)))) (several_done (walk T vars xs (64 - depth - 1)) n (at + 1) none)
            ∙ ap (outwards outer depth) taken
            ∙ r.rest

        -- LAW: .. of which the next one is read
        pub next_beside : 0 < here - 1 → ToRead outer depth (here - 1) (at + 1)
        next_beside p = record { levels = r.levels; shallow = r.shallow; within = omega arith; some = p; rest = others }

        module _ (last : here - 1 ≡ 0) (kept : ℕ) (found : StayOpen (take depth outer) (length (take depth outer)) kept) where
          o : StayOpen outer depth kept
          o = stays_open outer depth kept (omega (arith, r.levels, r.shallow)) found

          outside : Rest outer kept 0 (at + 1)
          outside = out_of_all outer (at + 1) depth kept o (rw last at others)

          -- LAW: .. or where none is left, one on the innermost level that is still open
          pub next_around : (innermost : ℕ) → kept ≡ innermost + 1 → ToRead outer innermost (get_or outer innermost 0) (at + 1)
          next_around innermost e =
              let p : 0 < kept = omega arith in
              let q : kept - 1 ≡ innermost = omega arith in
              rw (← q) (record { levels = r.levels; shallow = omega (arith, o.within, r.shallow); within = omega arith; some = o.last p; rest = around outer (at + 1) kept p outside })

          -- LAW: .. or where no level is, the term ends here
          pub term_ends : kept ≡ 0 → ends (at + 1) ≡ walk T vars xs 64 0
          term_ends e = several_done (inside 0) 0 (at + 1) refl ∙ rw e at outside
