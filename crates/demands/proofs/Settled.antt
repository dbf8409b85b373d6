-- What the statements leave open of calls on tables, headings and their parts: nothing. Two programs that meet them give the same. Where a row refuses,
-- both give that refusal; where none does, the sentences on the call leave one value. And a list can only be handed back as is promised.
use mathlib.Core.Path.{◌≡◌, refl, sym as inv, ap, ap₂, ◌∙◌, subst}
use mathlib.Core.Logic.{◌⊎◌, inl, inr}
use mathlib.Core.List.{List, [], ◌∷◌}
use mathlib.Core.Bool.{Bool, true, false, ◌&&◌, cond}
use mathlib.Core.Option.{Option, none, some as just, some-injective}
use Prim.Native.Nat.{ℕ, zero, suc, ◌≤◌, ◌<◌}
use native.Mathlib.Nat.{not-suc-le-zero}
use native.Mathlib.Decide.{dec_lt, ℕ_discrete}
use native.Mathlib.Omega.{arith}
use lib.Dec.{eqb, ltb}
use lib.ListN.{length, get_or}
use borrow.Author.Tests.{eqb-true, lt-ltb, le-ltb}
use Rattle.theory.specs.Tree.{encₚ}
use Rattle.theory.specs.Table.{degree}
use Rattle.theory.specs.Pairs.{Pair, pair, is_pair}
use Rattle.theory.proofs.Lemmas.{and_left, and_right, last_or_below}
use Rattle.theory.proofs.Verdict.{or_cases}
use Rattle.meaning.specs.File.{symbol_count_lem, pair_count_lem, pairs_in, table_in}
use Rattle.meaning.specs.Refusals.{Refusal, refusal, first, row13, table_rows}
use Rattle.meaning.specs.Calls.{Answer, gives, Yes, aye, symbol_rows, degree_rows, heading_degree, part, subterm_rows, subterm, the_first, the_second_lem, nearer_rows, nearer}
use Rattle.meaning.specs.Tables.{SymbolDegrees}
use Rattle.meaning.specs.Parts.{SubtermIs}
use Rattle.meaning.proofs.First.{first_given, append-none}
use Rattle.meaning.proofs.Parts.{subterms, nearest}
use Rattle.headings.specs.Terms.{Nodes, PartOf, IsPart, Subterm, IsChosen, Nearer}
use Rattle.demands.specs.Program.{Program}
use Rattle.demands.specs.Handed.{EmptyAt, HandedBack}
use Rattle.demands.specs.Demand1.{Refuses, Demand1}
use Rattle.demands.specs.Demand2.{Demand2}
use Rattle.demands.specs.Further.{Further}
use Rattle.demands.proofs.Exact.{by_none, same_answer}
use Rattle.demands.proofs.Paired.{chosen, both_given}

-- some number below n passes a test, or none does
pub find : (n : ℕ) (b : ℕ → Bool) → ((k : ℕ) × (k < n) × (b k ≡ true)) ⊎ ((k : ℕ) → k < n → b k ≡ false)
find zero b = inr (λ k l. absurd (not-suc-le-zero l))
find (suc n) b = go (b n) refl (find n b)
  where
    go : (t : Bool) → b n ≡ t → ((k : ℕ) × (k < n) × (b k ≡ true)) ⊎ ((k : ℕ) → k < n → b k ≡ false)
        → ((k : ℕ) × (k < suc n) × (b k ≡ true)) ⊎ ((k : ℕ) → k < suc n → b k ≡ false)
    go true e rest = inl (n, omega arith, e)
    go false e (inl r) = inl (r.0, omega (arith, r.1), r.2)
    go false e (inr r) = inr (last_or_below {P = λ k. b k ≡ false} n e r)

-- ---- the degrees of two symbols

-- a and b are the symbols of a pair
abbrev of_pair_lem : Pair → ℕ → ℕ → Bool
of_pair_lem (pair l h d) a b = is_pair l h a b

module _ (table : List ℕ) (f g : ℕ → ℕ → Answer ℕ) (sf : SymbolDegrees table f) (sg : SymbolDegrees table g) where
  -- LAW: one of two numbers is no symbol, or they are one symbol, or a listed pair, or none of that
  pub same_degree : (a b : ℕ) → f a b ≡ g a b
  same_degree a b = go (dec_lt a (symbol_count_lem table)) (dec_lt b (symbol_count_lem table)) (ℕ_discrete a b) (find (pair_count_lem table) test)
    where
      test : ℕ → Bool
      test k = of_pair_lem (get_or (pairs_in table) k (pair 0 0 0)) a b

      listed : (k : ℕ) → k < pair_count_lem table → (x : Pair) → get_or (pairs_in table) k (pair 0 0 0) ≡ x → of_pair_lem x a b ≡ true → f a b ≡ g a b
      listed k l (pair lower higher d) e t = either (or_cases (eqb a lower && eqb b higher) (eqb a higher && eqb b lower) t)
        where
          either : ((eqb a lower && eqb b higher) ≡ true) ⊎ ((eqb a higher && eqb b lower) ≡ true) → f a b ≡ g a b
          either (inl q) =
              rw (eqb-true a lower (and_left (eqb a lower) (eqb b higher) q), eqb-true b higher (and_right (eqb a lower) (eqb b higher) q))
              ((sf.listed k lower higher d l e).0 ∙ inv (sg.listed k lower higher d l e).0)
          either (inr q) =
              rw (eqb-true a higher (and_left (eqb a higher) (eqb b lower) q), eqb-true b lower (and_right (eqb a higher) (eqb b lower) q))
              ((sf.listed k lower higher d l e).1 ∙ inv (sg.listed k lower higher d l e).1)

      go : Dec (a < symbol_count_lem table) → Dec (b < symbol_count_lem table) → Dec (a ≡ b)
          → ((k : ℕ) × (k < pair_count_lem table) × (test k ≡ true)) ⊎ ((k : ℕ) → k < pair_count_lem table → test k ≡ false) → f a b ≡ g a b
      go (no m) y z o = let w : symbol_count_lem table ≤ a = omega arith in sf.first-outside a b w ∙ inv (sg.first-outside a b w)
      go (yes l) (no m) z o = let w : symbol_count_lem table ≤ b = omega arith in sf.second_outside a b l w ∙ inv (sg.second_outside a b l w)
      go (yes l) (yes m) (yes e) o = subst (λ x. f a x ≡ g a x) e (sf.itself a l ∙ inv (sg.itself a l))
      go (yes l) (yes m) (no e) (inl r) = listed r.0 r.1 (get_or (pairs_in table) r.0 (pair 0 0 0)) refl r.2
      go (yes l) (yes m) (no e) (inr r) =
          let n : (k l h d : ℕ) → k < pair_count_lem table → get_or (pairs_in table) k (pair 0 0 0) ≡ pair l h d → is_pair l h a b ≡ false
          = λ k l h d b' e'. ap (λ x. of_pair_lem x a b) (inv e') ∙ r k b' in
          sf.others a b l m e n ∙ inv (sg.others a b l m e n)

-- ---- call by call

only_yes : (x y : Yes) → x ≡ y
only_yes aye aye = refl

module _ (P Q : Program) (one : Demand1 P) (one' : Demand1 Q) (two : Demand2 P) (two' : Demand2 Q) (more : Further P) (more' : Further Q) where
  pub same_is_table : (table : List ℕ) → P.is_table_lem table ≡ Q.is_table_lem table
  same_is_table table =
      same_answer (table_rows table) _ _ (one.is_table_lem-is table) (one'.is_table_lem-is table)
      (λ q.
      let x = by_none (table_rows table) _ (one.is_table_lem-is table) q in
      let y = by_none (table_rows table) _ (one'.is_table_lem-is table) q in
      x.1 ∙ ap gives (only_yes x.0 y.0) ∙ inv y.1)

  pub same_symbol_degree : (table : List ℕ) (a b : ℕ) → P.symbol_degree_lem table a b ≡ Q.symbol_degree_lem table a b
  unfolding symbol_rows
  same_symbol_degree table a b =
      same_answer (symbol_rows table a b) _ _ (one.symbol_degree_lem-is table a b) (one'.symbol_degree_lem-is table a b)
      (λ q.
      let s = (append-none (table_rows table) (row13 (symbol_count_lem table) a b ∷ []) q).0 in
      same_degree table (P.symbol_degree_lem table) (Q.symbol_degree_lem table) (more.symbol_degrees table s) (more'.symbol_degrees table s) a b)

  pub same_heading_degree : (table left right : List ℕ) → P.heading_degree table left right ≡ Q.heading_degree table left right
  same_heading_degree table left right =
      same_answer (degree_rows table left right) _ _ (one.heading_degree_lem table left right) (one'.heading_degree_lem table left right)
      (λ q.
      let x = two.degree table left right q in
      let y = two'.degree table left right q in
      x.published
      ∙ ap₂ (λ t u. gives (degree (table_in table) t u)) (y.writes_one.only x.t x.writes_one.holds) (y.writes_two.only x.u x.writes_two.holds)
      ∙ inv y.published)

-- ---- what is handed back

empty_part : (list r : Nodes) → EmptyAt list r → PartOf list r 0 0
empty_part list r x = record { holds = x.no_nodes; block = x.block; offset = omega (arith, x.offset) }

module _ (P : Program) (one : Demand1 P) (more : HandedBack P) where
  -- LAW: a tree has one subterm at an index
  pub settled-subterm : (table : List ℕ) (term : Nodes) (i : ℕ) → Subterm table term i (P.subterm table term i)
  settled-subterm table term i = go (first (subterm_rows table term.now)) refl (dec_lt i (length term.now))
    where
      r : Nodes
      r = P.subterm table term i

      nowhere : subterm table term.now i ≡ part 0 0 → Refuses (subterm_rows table term.now) ⊎ (length term.now ≤ i) → IsPart term r (subterm table term.now i)
      nowhere e x = rw e (empty_part term r ((one.subterm table term i).1 x))

      there : SubtermIs table term.now i (subterm table term.now i) → first (subterm_rows table term.now) ≡ none → i < length term.now → IsPart term r (subterm table term.now i)
      there s q l =
          let x = more.the_subterm table term i q l s.p s.writes_term.holds in
          let e : x.0 ≡ s.q = some-injective x.0 s.q (inv x.1 ∙ s.subterm_is) in
          rw s.handed_back (record { holds = x.2.nodes ∙ ap encₚ e ∙ inv s.holds_it; block = x.2.block; offset = x.2.offset })

      go : (o : Option Refusal) → first (subterm_rows table term.now) ≡ o → Dec (i < length term.now) → IsPart term r (subterm table term.now i)
      go (just (refusal n place)) q d =
          let g = first_given (subterm_rows table term.now) n place q in
          nowhere (subterms.refused_part table term.now i n place g) (inl (n, place, g))
      go none q (no m) = let l : length term.now ≤ i = omega arith in nowhere (subterms.outside_part table term.now i l) (inr l)
      go none q (yes m) = there (subterms.found table term.now i q m) q m

  -- LAW: where nothing is refused both degrees are given, and they choose
  pub settled-nearer : ((table left right : List ℕ) → P.heading_degree table left right ≡ heading_degree table left right)
      → (table heading : List ℕ) (left right : Nodes) → Nearer table heading left right (P.nearer table heading left right)
  settled-nearer degrees table heading left right = go (first (nearer_rows table heading left.now right.now)) refl
    where
      r : Nodes
      r = P.nearer table heading left right

      by : (d e : ℕ) → P.heading_degree table heading left.now ≡ gives d → P.heading_degree table heading right.now ≡ gives e
          → nearer table heading left.now right.now ≡ cond (ltb d e) the_second_lem the_first
      by d e f g = chosen table heading left.now right.now d e (inv (degrees table heading left.now) ∙ f) (inv (degrees table heading right.now) ∙ g)

      by_degrees : (d e : ℕ) → P.heading_degree table heading left.now ≡ gives d → P.heading_degree table heading right.now ≡ gives e → Dec (d < e)
          → IsChosen left right r (nearer table heading left.now right.now)
      by_degrees d e f g (yes l) = rw (by d e f g, lt-ltb d e l) (more.the_second table heading left right d e f g l)
      by_degrees d e f g (no m) = let l : e ≤ d = omega arith in rw (by d e f g, le-ltb d e l) (more.the_first_lem table heading left right d e f g l)

      go : (o : Option Refusal) → first (nearer_rows table heading left.now right.now) ≡ o → IsChosen left right r (nearer table heading left.now right.now)
      go (just (refusal n place)) q =
          let g : Refuses (nearer_rows table heading left.now right.now) = (n, place, first_given (nearer_rows table heading left.now right.now) n place q) in
          rw ((nearest.neither_if table heading left.now right.now).1 g) (empty_part left r ((one.nearer table heading left right).1 g))
      go none q =
          let rows = both_given table heading left.now right.now q in
          let x = by_none (degree_rows table heading left.now) _ (one.heading_degree_lem table heading left.now) rows.0 in
          let y = by_none (degree_rows table heading right.now) _ (one.heading_degree_lem table heading right.now) rows.1 in
          by_degrees x.0 y.0 x.1 y.1 (dec_lt x.0 y.0)
