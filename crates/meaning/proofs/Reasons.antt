-- Why a match is refused by 9 or 10: these rows are what the theory's verdict is made of.
use mathlib.Core.Path.{◌≡◌, refl, sym as inv, ap, ◌∙◌}
use mathlib.Core.List.{List, [], ◌∷◌}
use mathlib.Core.Bool.{true}
use mathlib.Core.Option.{Option, none, some as just, some-ne-none}
use Prim.Native.Nat.{ℕ}
use native.Mathlib.Omega.{arith}
use lib.ListN.{length, get_or}
use Rattle.theory.specs.Tree.{Term, Pattern}
use Rattle.theory.specs.Table.{Table}
use Rattle.theory.specs.Faces.{faces, node_of}
use Rattle.theory.specs.Match.{clash, lowest_of_lem, highest_of}
use Rattle.theory.specs.Least.{least_below}
use Rattle.theory.specs.Verdict.{verdict, settled, lacking, Means, MeansFormless}
use Rattle.theory.specs.Decode.{pattern_of, term_of}
use Rattle.theory.proofs.Decoding.{fine_over}
use Rattle.theory.proofs.More.{clash-at}
use Rattle.theory.proofs.Place.{clash_place}
use Rattle.theory.proofs.Verdict.{verdict_means}
use Rattle.meaning.specs.Limits.{variable_count}
use Rattle.meaning.specs.File.{table_in}
use Rattle.meaning.specs.Refusals.{refusal, row, first, row9, row10}
use Rattle.meaning.specs.Calls.{refused, input_rows, search_rows, match_rows, matched, match_call}
use Rattle.meaning.specs.Demands.{Accepted}
use Rattle.meaning.specs.Matching.{Clashes, Reasons}
use Rattle.meaning.proofs.First.{first-append, unless_refused}
use Rattle.meaning.proofs.Matched.{Ready, ready}

is_nine : (o q : Option ℕ) (i : ℕ) → first (row 9 o ∷ row 10 q ∷ []) ≡ just (refusal 9 i) → o ≡ just i
is_nine (just j) q i e = cc
is_nine none (just v) i e = let z : ◌≡◌ {A = ℕ} 10 9 = cc in absurd (omega arith)
is_nine none none i e = absurd (some-ne-none (refusal 9 i) (inv e))

is_ten : (o q : Option ℕ) (v : ℕ) → first (row 9 o ∷ row 10 q ∷ []) ≡ just (refusal 10 v) → (o ≡ none) × (q ≡ just v)
is_ten (just j) q v e = let z : ◌≡◌ {A = ℕ} 9 10 = cc in absurd (omega arith)
is_ten none (just w) v e = (refl, cc)
is_ten none none v e = absurd (some-ne-none (refusal 10 v) (inv e))

module _ (table pattern heading : List ℕ) (cut : ℕ) (spans sets : List ℕ) (a : Accepted table pattern heading cut spans sets) where
  abbrev T : Table
  T = table_in table

  abbrev p : Pattern
  p = pattern_of (table_in table) pattern

  abbrev h : Term
  h = term_of (table_in table) heading

  r : Ready table pattern heading cut
  r = ready table pattern heading cut spans sets a

  -- a refusal is one of the search
  searched : (n place : ℕ) → matched table pattern heading cut spans sets ≡ refused n place
      → first (row 9 (clash T cut (faces p h)) ∷ row 10 (least_below variable_count (lacking T cut p h)) ∷ []) ≡ just (refusal n place)
  unfolding matched match_rows search_rows row9 row10
  searched n place e =
      inv (first-append (input_rows table pattern heading cut spans sets) (search_rows table pattern heading cut) a)
      ∙ unless_refused (first (match_rows table pattern heading cut spans sets)) _ n place e

  nine : (i : ℕ) → matched table pattern heading cut spans sets ≡ refused 9 i → Clashes T cut p h pattern i
  nine i e =
      let c = is_nine (clash T cut (faces p h)) (least_below variable_count (lacking T cut p h)) i (searched 9 i e) in
      let q = clash-at T cut (faces p h) i c in
      let w = clash_place T r.lawful cut r.positive p h (fine_over T true p r.pattern_is.holds.fine) r.heading_is.holds.over i c in
      let is = r.pattern_is.holds.is in
      record {
        clash = q;
        index = omega (arith, ap length is, w.0);
        node = ap (λ l. get_or l i 0) is ∙ inv w.1 ∙ ap node_of q.here;
      }

  ten : (v : ℕ) → matched table pattern heading cut spans sets ≡ refused 10 v → MeansFormless T cut p h v
  unfolding verdict
  ten v e =
      let c = is_ten (clash T cut (faces p h)) (least_below variable_count (lacking T cut p h)) v (searched 10 v e) in
      let m = verdict_means T r.lawful p h r.pattern_is.holds.fine r.heading_is.holds.over cut r.positive r.cut_top in
      let q : Means T cut p h (settled none (just v) (lowest_of_lem T cut (faces p h)) (highest_of T cut (faces p h))) = rw (c.0, c.1) at m in
      q

  -- THEOREM: the reasons of 9 and 10
  pub reasons : Reasons T cut p h pattern (match_call table pattern heading cut spans sets)
  reasons = record { nine = nine; ten = ten }
