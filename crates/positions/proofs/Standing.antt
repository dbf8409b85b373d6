-- The symbols that stand at a position of the subterms, each once, tell all that the subterms themselves tell there: what a symbol shares with
-- the subterms is the least of its degrees with those symbols. A subterm that has no such position leaves nothing near.
use mathlib.Core.Path.{◌≡◌, refl, sym as inv, ap, ◌∙◌}
use mathlib.Core.List.{List, [], ◌∷◌}
use mathlib.Core.Bool.{Bool, true, false, ◌&&◌, and-false, cond}
use Prim.Native.Nat.{ℕ, zero, suc, ◌+◌, ◌≤◌, ◌<◌}
use native.Mathlib.Nat.{not-suc-le-zero}
use native.Mathlib.Omega.{arith}
use borrow.Author.Tests.{lt-leb, eq-eqb, eqb-true}
use lib.Dec.{ltb, leb}
use lib.ListN.{length, get_or}
use Rattle.theory.specs.Tree.{Term, node, ∅}
use Rattle.theory.specs.Table.{Table, Lawful}
use Rattle.theory.specs.Least.{All, lowest, highest}
use Rattle.theory.specs.Match.{at, shared, in_set, lowest_at_lem, highest_at}
use Rattle.theory.specs.Stands.{StandsAt, Gathered}
use Rattle.theory.proofs.Lemmas.{least_top, all_of_least, least_of_all, all_get_d, lowest_le, lowest_top, le_lowest}
use Rattle.theory.proofs.Gathered.{at_node, at_past}
use Rattle.meaning.specs.Limits.{set_words_lem, set_room}
use Rattle.meaning.specs.Buffers.{member}
use Rattle.sets.specs.Words.{one_bit}
use Rattle.sets.proofs.Laws.{member_one}
use Rattle.facing.specs.Notes.{note_at, numbers_of}
use Rattle.facing.specs.declared.notes.Note.{Note}
use Rattle.facing.proofs.Numbers.{gathered_each}
use Rattle.wide.specs.Shared.{shared_by_lem}
use Rattle.positions.specs.Position.{NearOf, StandAt, EndsBefore, in_shared, lowest_shared, highest_shared}
use Rattle.positions.proofs.Members.{lowest-same, highest-same}

-- ---- one subterm

module _ (T : Table) (list : List ℕ) (start size k : ℕ) where
  -- LAW: at a position of the subterm stands that node of the list
  pub at_inside : (t : Term) → StandsAt list start size t → k < size → at T t k ≡ get_or list (start + k) 0
  at_inside t w l = at_node T t list start (rw w.nodes at w.is) k (omega (arith, w.nodes))

  -- past its end there is no symbol
  at-outside : (t : Term) → StandsAt list start size t → size ≤ k → at T t k ≡ T.size
  at-outside t w l = at_past T t k (omega (arith, w.nodes))

-- what is no symbol has degree 0 with everything
no_degree : {T : Table} → Lawful T → (s : ℕ) → T.deg s T.size ≡ 0
no_degree {T} L s = go (T.deg s T.size) refl
  where
    go : (d : ℕ) → T.deg s T.size ≡ d → d ≡ 0
    go zero e = refl
    go (suc d) e = absurd (omega (arith, (L.inside s T.size (omega arith)).1))

-- ---- which symbols stand there, one subterm after the other

module _ (heading : List ℕ) (notes : List Note) (k : ℕ) where
  pub stand_none : (symbols : List ℕ) → ((h : ℕ) → member symbols h ≡ false) → StandAt heading notes k 0 symbols
  stand_none symbols none =
      record {
        reach = λ o l. absurd (not-suc-le-zero l);
        each = λ o l. absurd (not-suc-le-zero l);
        only = λ h e. let z : false ≡ true = inv (none h) ∙ e in absurd (cc_false z);
      }
    where
      cc_false : false ≡ true → ⊥
      cc_false z = let y : ◌≡◌ {A = ℕ} 0 1 = cc in omega arith

  -- LAW: one symbol, the first subterm's, stands in all of them
  pub stand_alone : (n first : ℕ) {symbols : List ℕ} → 0 < n → first < set_room → first ≡ get_or heading ((note_at notes 0).start + k) 0
      → ((o : ℕ) → o < n → get_or heading ((note_at notes o).start + k) 0 ≡ first) → StandAt heading notes k n symbols
      → StandAt heading notes k n (one_bit set_words_lem first)
  stand_alone n first some small is same s =
      record {
        reach = s.reach;
        each = λ o l. member_one set_words_lem first small (get_or heading ((note_at notes o).start + k) 0) ∙ eq-eqb _ _ (same o l);
        only = λ h e. (0, some, inv (eqb-true h first (inv (member_one set_words_lem first small h) ∙ e) ∙ is));
      }

-- ---- what the subterms share there

all_at : {A : Type 0} (P : A → Type 0) (z : A) (xs : List A) → ((o : ℕ) → o < length xs → P (get_or xs o z)) → All P xs
all_at P z [] h = tt
all_at P z (x ∷ xs) h = (h 0 (omega arith), all_at P z xs (λ o l. h (suc o) (omega arith)))

module _ {T : Table} {cut : ℕ} {near heading : List ℕ} (known : NearOf T cut near heading) (notes : List Note) {n : ℕ} {ts : List Term} (g : Gathered heading (numbers_of notes) n ts) (k : ℕ) where
  module _ {faced : List ℕ} (stand : StandAt heading notes k n faced) where
    here : (o : ℕ) → o < n → at T (get_or ts o (node 0 ∅)) k ≡ get_or heading ((note_at notes o).start + k) 0
    here o l = at_inside T heading (note_at notes o).start (note_at notes o).size k (get_or ts o (node 0 ∅)) (gathered_each notes g o l) (stand.reach o l)

    symbol : (o : ℕ) → o < n → get_or heading ((note_at notes o).start + k) 0 < T.size
    symbol o l = known.symbols ((note_at notes o).start + k) (omega (arith, stand.reach o l, (gathered_each notes g o l).inside))

    -- LAW: what stands there is a symbol
    pub stand_symbols : (h : ℕ) → member faced h ≡ true → h < T.size
    stand_symbols h e = let o = stand.only h e in rw o.2 at (symbol o.0 o.1)

    -- LAW: what a symbol shares with the subterms
    pub shares : (s : ℕ) → shared T ts k s ≡ shared_by_lem T faced s
    shares s = omega (arith, below, above)
      where
        f : Term → ℕ
        f t = T.deg s (at T t k)

        with_one : (o : ℕ) → o < n → shared T ts k s ≤ T.deg s (get_or heading ((note_at notes o).start + k) 0)
        with_one o l =
            let each = all_get_d (λ t. shared T ts k s ≤ f t) ts o (node 0 ∅) (omega (arith, g.count)) (all_of_least f (shared T ts k s) ts (omega arith)) in
            omega (arith, each, ap (T.deg s) (here o l))

        below : shared T ts k s ≤ shared_by_lem T faced s
        below = le_lowest T.size (λ h. cond (member faced h) (T.deg s h) 1000) (shared T ts k s) (least_top f ts) (λ h l. go h (member faced h) refl)
          where
            go : (h : ℕ) (b : Bool) → member faced h ≡ b → shared T ts k s ≤ cond b (T.deg s h) 1000
            go h true e = let o = stand.only h e in rw o.2 at (with_one o.0 o.1)
            go h false e = least_top f ts

        above : shared_by_lem T faced s ≤ shared T ts k s
        above = least_of_all f (shared_by_lem T faced s) ts (lowest_top T.size (λ h. cond (member faced h) (T.deg s h) 1000)) (all_at _ (node 0 ∅) ts each)
          where
            each : (o : ℕ) → o < length ts → shared_by_lem T faced s ≤ f (get_or ts o (node 0 ∅))
            each o l =
                let m : o < n = omega (arith, g.count) in
                let h = get_or heading ((note_at notes o).start + k) 0 in
                let least = rw (stand.each o m) at (lowest_le T.size (λ h. cond (member faced h) (T.deg s h) 1000) h (symbol o m)) in
                omega (arith, least, ap (T.deg s) (here o m))

    -- LAW: so the set there and its degrees are those of the symbols that stand there
    pub set-shared : (s : ℕ) → in_shared T cut faced s ≡ in_set T cut ts k s
    set-shared s = ap (λ (d : ℕ). ltb s T.size && leb cut d) (inv (shares s))

    pub lowest-shared : lowest_shared T cut faced ≡ lowest_at_lem T cut ts k
    lowest-shared = lowest-same T.size _ _ (λ s l. ap (λ (d : ℕ). cond (ltb s T.size && leb cut d) d 1000) (inv (shares s)))

    pub highest-shared : highest_shared T cut faced ≡ highest_at T cut ts k
    highest-shared = highest-same T.size _ _ (λ s l. ap (λ (d : ℕ). cond (ltb s T.size && leb cut d) d 0) (inv (shares s)))

  module _ (short : EndsBefore notes k n) where
    nothing : (s : ℕ) → shared T ts k s ≤ 0
    nothing s =
        let o = short.0 in
        let l = short.1 in
        let f : Term → ℕ = λ t. T.deg s (at T t k) in
        let each = all_get_d (λ t. shared T ts k s ≤ f t) ts o (node 0 ∅) (omega (arith, g.count)) (all_of_least f (shared T ts k s) ts (omega arith)) in
        let past = at-outside T heading (note_at notes o).start (note_at notes o).size k (get_or ts o (node 0 ∅)) (gathered_each notes g o l) short.2 in
        omega (arith, each, ap (T.deg s) past, no_degree known.lawful s)

    -- LAW: where a subterm ends before, no symbol is in the set
    pub set-none : (s : ℕ) → in_set T cut ts k s ≡ false
    set-none s = rw (lt-leb cut (shared T ts k s) (omega (arith, nothing s, known.positive))) (and-false (ltb s T.size))

    pub lowest-none : lowest_at_lem T cut ts k ≡ 1000
    lowest-none = lowest-same T.size _ (λ s. 1000) (λ s l. rw (set-none s)) ∙ all_top T.size
      where
        all_top : (n : ℕ) → lowest n (λ s. 1000) ≡ 1000
        all_top zero = refl
        all_top (suc n) = omega (arith, all_top n)

    pub highest-none : highest_at T cut ts k ≡ 0
    highest-none = highest-same T.size _ (λ s. 0) (λ s l. rw (set-none s)) ∙ all_zero T.size
      where
        all_zero : (n : ℕ) → highest n (λ s. 0) ≡ 0
        all_zero zero = refl
        all_zero (suc n) = omega (arith, all_zero n)
