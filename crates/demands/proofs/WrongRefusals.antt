-- Wrong programs that fail at demand 1 alone. Demands 2 and 3 speak of calls that are not refused for their input or their room, and demand 2 takes
-- 9 and 10 alike; so they allow a program that answers where it should refuse (`lax`), and one that muddles its refusals (`muddled`).
use mathlib.Core.Path.{◌≡◌, refl, sym as inv, ap, ◌∙◌, subst}
use mathlib.Core.Logic.{inl, inr}
use mathlib.Core.List.{List, []}
use mathlib.Core.Option.{Option, none, some as just}
use Prim.Native.Nat.{ℕ}
use native.Mathlib.Omega.{arith}
use Rattle.theory.specs.Tree.{Term, Pattern}
use Rattle.theory.specs.Table.{Table}
use Rattle.theory.specs.Read.{walk, several}
use Rattle.meaning.specs.File.{arities_in, pairs_in, table_in}
use Rattle.meaning.specs.Refusals.{Refusal, refusal, first, row1_short, row1_offsets, row2, row3, row4, row5, row6, row7, row8, table_rows}
use Rattle.meaning.specs.Calls.{Answer, refused, gives, Degrees, degrees, Matched, input_rows, search_rows, match_rows, match_call}
use Rattle.meaning.specs.Demands.{NoMatch, Found, Decides, Narrower, TwoCuts, Demand2 as MatchOf, Demand3 as CutsOf}
use Rattle.meaning.proofs.First.{first_given}
use Rattle.meaning.proofs.Compose.{first_stays, input_numbers}
use Rattle.meaning.proofs.Wrong.{found_all}
use Rattle.demands.specs.Program.{Program}
use Rattle.demands.specs.Demand1.{Demand1}
use Rattle.demands.specs.Demand2.{Demand2}
use Rattle.demands.specs.Demand3.{Demand3}
use Rattle.demands.proofs.Meant.{Handing, with_match}
use Rattle.demands.proofs.Drawn.{by_cuts}
use Rattle.demands.proofs.Demands.{demand2, demand3}
use Rattle.demands.proofs.Exact.{not_both}

-- ---- what demand 1 says of a call that is refused for its input or its room

module _ (P : Program) (d : Demand1 P) (table pattern heading : List ℕ) (cut : ℕ) (spans sets : List ℕ) (n place : ℕ)
    (e : first (input_rows table pattern heading cut spans sets) ≡ just (refusal n place)) where
  -- LAW: the match gives that refusal, and leaves both buffers
  pub refused_input : ((P.match table pattern heading cut spans sets).answer ≡ refused n place)
      × ((P.match table pattern heading cut spans sets).spans ≡ spans) × ((P.match table pattern heading cut spans sets).sets ≡ sets)
  unfolding match_rows
  refused_input =
      let rows = input_rows table pattern heading cut spans sets in
      let given = first_given (match_rows table pattern heading cut spans sets) n place (first_stays rows (search_rows table pattern heading cut) n place e) in
      let a = ((d.match table pattern heading cut spans sets).given n place).1 given in
      let l = (d.match_leaves table pattern heading cut spans sets).unchanged n place a (input_numbers table pattern heading cut spans sets n place e) in
      (a, l.0, l.1)

-- lists of nothing are refused by 1
nothing : first (input_rows [] [] [] 0 [] []) ≡ just (refusal 1 0)
unfolding input_rows table_rows row1_short row1_offsets row2 row3 row4 row5 row6 row7 row8 table_in arities_in pairs_in walk several
nothing = refl

-- ---- lax: degrees 1 and 1, and both buffers lost, wherever the input or the room should be refused

abbrev laxly : Option Refusal → Matched → Matched
laxly none r = r
laxly (just x) r = record { answer = gives (degrees 1 1); spans = []; sets = [] }

abbrev pub lax : (table pattern heading : List ℕ) (cut : ℕ) (spans sets : List ℕ) → Matched
lax table pattern heading cut spans sets = laxly (first (input_rows table pattern heading cut spans sets)) (match_call table pattern heading cut spans sets)

as_it_was : (o : Option Refusal) (r : Matched) → o ≡ none → r ≡ laxly o r
as_it_was o r e = rw e

lax_two : (H : Handing) → Demand2 (with_match H lax)
lax_two H =
    record {
      degree = (demand2 H).degree;
      match = λ t p h c sp se a. subst (MatchOf t p h c) (as_it_was _ _ a) ((demand2 H).match t p h c sp se a);
    }

-- THEOREM: demands 2 and 3 allow it
pub lax_meets : (H : Handing) → Demand2 (with_match H lax) × Demand3 (with_match H lax)
lax_meets H = (
  lax_two H,
  by_cuts (with_match H lax) (lax_two H)
      (λ t p h c sp se c' sp' se' up a a'.
      subst (λ r. CutsOf t p h c r c' (lax t p h c' sp' se')) (as_it_was _ _ a)
      (subst (λ r. CutsOf t p h c (match_call t p h c sp se) c' r) (as_it_was _ _ a') ((demand3 H).cuts t p h c sp se c' sp' se' up a a'))),
)

-- THEOREM: demand 1 does not
pub lax_fails : (P : Program) → ((table pattern heading : List ℕ) (cut : ℕ) (spans sets : List ℕ) → P.match table pattern heading cut spans sets ≡ lax table pattern heading cut spans sets)
    → Demand1 P → ⊥
lax_fails P w d =
    let given : (lax [] [] [] 0 [] []).answer ≡ gives (degrees 1 1) = rw nothing in
    not_both (degrees 1 1) 1 0 (inv (ap (λ r. r.answer) (w [] [] [] 0 [] []) ∙ given) ∙ (refused_input P d [] [] [] 0 [] [] 1 0 nothing).0)

-- ---- muddled: every refusal becomes 10, at place 99

abbrev muddle : Answer Degrees → Answer Degrees
muddle (refused n place) = refused 10 99
muddle (gives d) = gives d

abbrev pub muddled : Matched → Matched
muddled r = record { answer = muddle r.answer; spans = r.spans; sets = r.sets }

unmuddled : (a : Answer Degrees) (d : Degrees) → muddle a ≡ gives d → a ≡ gives d
unmuddled (refused n place) d e = absurd (not_both d 10 99 (inv e))
unmuddled (gives x) d e = e

module _ (T : Table) (cut : ℕ) (p : Pattern) (h : Term) (r : Matched) where
  found_muddled : Found T cut p h r → Found T cut p h (muddled r)
  found_muddled f =
      record {
        lowest = f.lowest;
        highest = f.highest;
        answered = ap muddle f.answered;
        is_lowest = f.is_lowest;
        is_highest = f.is_highest;
        matchers = f.matchers;
      }

  says : NoMatch r → NoMatch (muddled r)
  says (place, inl e) = (99, inr (ap muddle e))
  says (place, inr e) = (99, inr (ap muddle e))

  neither : (d : Degrees) → r.answer ≡ gives d → NoMatch (muddled r) → ⊥
  neither d e (place, inl f) = not_both d 9 place (inv (ap muddle e) ∙ f)
  neither d e (place, inr f) = not_both d 10 place (inv (ap muddle e) ∙ f)

  decides_muddled : Decides T cut p h r → Decides T cut p h (muddled r)
  decides_muddled d =
      record {
        no_match = (
          (λ n σ m. let f = found_all T cut p h r d σ m in neither (degrees f.lowest f.highest) f.answered n),
          (λ no. says (d.no_match.1 no)),
        );
        otherwise = λ k. found_muddled (d.otherwise (λ n. k (says n)));
      }

narrower_muddled : (c : ℕ) (r s : Matched) (l g : ℕ) → Narrower c r s l g → Narrower c (muddled r) (muddled s) l g
narrower_muddled c r s l g n =
    record {
      low₁ = n.low₁;
      high₁ = n.high₁;
      first_answers = ap muddle n.first_answers;
      reaches = n.reaches;
      inside = n.inside;
      same_start = n.same_start;
      same_count = n.same_count;
      same-highest = n.same-highest;
      same_own_highest = n.same_own_highest;
    }

cuts_muddled : (T : Table) (p : Pattern) (h : Term) (c : ℕ) (r : Matched) (c' : ℕ) (s : Matched) → TwoCuts T p h c r c' s → TwoCuts T p h c (muddled r) c' (muddled s)
cuts_muddled T p h c r c' s d =
    record {
      substitutions = d.substitutions;
      answers = λ l g e. narrower_muddled c' r s l g (d.answers l g (unmuddled s.answer (degrees l g) e));
      answers_if = λ l g e u. let q = d.answers_if l g (unmuddled r.answer (degrees l g) e) u in (q.0, ap muddle q.1);
    }

abbrev pub muddling : (table pattern heading : List ℕ) (cut : ℕ) (spans sets : List ℕ) → Matched
muddling table pattern heading cut spans sets = muddled (match_call table pattern heading cut spans sets)

match_muddled : (t p h : List ℕ) (c : ℕ) (r : Matched) → MatchOf t p h c r → MatchOf t p h c (muddled r)
match_muddled t p h c r d =
    record { p = d.p; h = d.h; writes_pattern = d.writes_pattern; writes_heading = d.writes_heading; decides = decides_muddled (table_in t) c d.p d.h r d.decides }

both_muddled : (t p h : List ℕ) (c : ℕ) (r : Matched) (c' : ℕ) (s : Matched) → CutsOf t p h c r c' s → CutsOf t p h c (muddled r) c' (muddled s)
both_muddled t p h c r c' s d =
    record { p = d.p; h = d.h; writes_pattern = d.writes_pattern; writes_heading = d.writes_heading; two_cuts = cuts_muddled (table_in t) d.p d.h c r c' s d.two_cuts }

muddling_two : (H : Handing) → Demand2 (with_match H muddling)
muddling_two H =
    record {
      degree = (demand2 H).degree;
      match = λ t p h c sp se a. match_muddled t p h c (match_call t p h c sp se) ((demand2 H).match t p h c sp se a);
    }

-- THEOREM: demands 2 and 3 allow it
pub muddling_meets : (H : Handing) → Demand2 (with_match H muddling) × Demand3 (with_match H muddling)
muddling_meets H = (
  muddling_two H,
  by_cuts (with_match H muddling) (muddling_two H)
      (λ t p h c sp se c' sp' se' up a a'. both_muddled t p h c (match_call t p h c sp se) c' (match_call t p h c' sp' se') ((demand3 H).cuts t p h c sp se c' sp' se' up a a')),
)

-- THEOREM: demand 1 does not
pub muddling_fails : (P : Program)
    → ((table pattern heading : List ℕ) (cut : ℕ) (spans sets : List ℕ) → P.match table pattern heading cut spans sets ≡ muddling table pattern heading cut spans sets)
    → Demand1 P → ⊥
muddling_fails P w d = ten_for_one (match_call [] [] [] 0 [] []).answer (inv (ap (λ r. r.answer) (w [] [] [] 0 [] [])) ∙ (refused_input P d [] [] [] 0 [] [] 1 0 nothing).0)
  where
    ten_for_one : (a : Answer Degrees) → muddle a ≡ refused 1 0 → ⊥
    ten_for_one (refused n place) e = let z : ◌≡◌ {A = ℕ} 10 1 = cc in omega arith
    ten_for_one (gives x) e = not_both x 1 0 e
