-- The heading of a record that is not refused: there is a first 100 field with a name, both strings are listed, and their numbers are written.
use mathlib.Core.Path.{◌≡◌, refl, sym as inv, ap, ap₂, ◌∙◌, subst}
use mathlib.Core.List.{List, [], ◌∷◌}
use mathlib.Core.Bool.{Bool, true, false, cond, false≢true}
use mathlib.Core.Option.{Option, none, some as just, some-ne-none}
use Prim.Native.Nat.{ℕ, zero, suc, ◌≤◌, ◌<◌}
use native.Mathlib.Omega.{arith}
use lib.Dec.{ltb}
use lib.ListN.{length, get_or, length-drop}
use borrow.Author.Tests.{ltb-false}
use Rattle.meaning.specs.Refusals.{Refusal, first, row8-output}
use Rattle.meaning.specs.Calls.{aye, symbol_degree_lem}
use Rattle.meaning.proofs.First.{Silent, all_silent, append-none, exactly, unless_gives, unless_refused}
use Rattle.meaning.proofs.Sound.{at0-none}
use Rattle.meaning.proofs.Degrees.{symbol_degrees}
use Rattle.marc.specs.Frame.{Field, field, fields_in, frame_rows, at_if}
use Rattle.marc.specs.Subfields.{subfield}
use Rattle.marc.specs.Known.{Known, same, number_in, row19}
use Rattle.marc.specs.Heading.{tag100, code_a, code_d, first_with, then_in, missing, field100, name_in, dates_in, row20, row21, row22, unlisted, node_of, heading_rows, heading_of, headed, later_nodes, heading_call}
use Rattle.marc.specs.Plain.{tag_of}
use Rattle.marc.specs.Reading.{FirstWith, Listed, DatesNode, Heads, HeadsCall, HeadingOrder, HeadingLeaves, AbsentApart}
use Rattle.marc.proofs.Strings.{same_true, true_same, not_same, is_listed, not_absent}
use Rattle.marc.proofs.Frames.{or_none, at_none}

-- LAW: the field that is found is the first with its tag
pub first_with_lem : (tag : List ℕ) (fs : List Field) (content : List ℕ) → first_with tag fs ≡ just content → FirstWith tag fs content
unfolding first_with
first_with_lem tag [] content e = absurd (some-ne-none content (inv e))
first_with_lem tag (field t c ∷ fs) content e = go (same t tag) refl e (first_with_lem tag fs content)
  where
    go : (b : Bool) → same t tag ≡ b → cond b (just c) (first_with tag fs) ≡ just content → (first_with tag fs ≡ just content → FirstWith tag fs content) → FirstWith tag (field t c ∷ fs) content
    go true p e rest =
        let q = same_true t tag p in
        let r : c ≡ content = cc in
        record { index = 0; inside = omega arith; is = ap₂ field q r; none_before = λ k l. absurd (omega arith) }
    go false p e rest =
        let f = rest e in
        record { index = suc f.index; inside = omega (arith, f.inside); is = f.is; none_before = before f }
      where
        before : (f : FirstWith tag fs content) (k : ℕ) → k < suc f.index → tag_of (get_or (field t c ∷ fs) k (field [] [])) ≡ tag → ⊥
        before f zero l q = false≢true (inv p ∙ true_same t tag q)
        before f (suc k) l q = f.none_before k (omega arith) q

-- LAW: .. and the first with its tag is found
pub with_first : (tag : List ℕ) (fs : List Field) (content : List ℕ) → FirstWith tag fs content → first_with tag fs ≡ just content
unfolding first_with
with_first tag fs content f = go fs f.index f.inside f.is f.none_before
  where
    go : (fs : List Field) (i : ℕ) → i < length fs → get_or fs i (field [] []) ≡ field tag content
        → ((k : ℕ) → k < i → tag_of (get_or fs k (field [] [])) ≡ tag → ⊥) → first_with tag fs ≡ just content
    go [] i l e n = absurd (omega arith)
    go (field t c ∷ fs) zero l e n = let q : t ≡ tag = cc in let r : c ≡ content = cc in rw (true_same t tag q) (ap just r)
    go (field t c ∷ fs) (suc i) l e n = rw (not_same t tag (n 0 (omega arith))) (go fs i (omega arith) e (λ k m. n (suc k) (omega arith)))

-- what is not missing is there
there : {A : Type 0} (o : Option A) → missing o ≡ false → (a : A) × (o ≡ just a)
there none e = absurd (false≢true (inv e))
there (just a) e = (a, refl)

module _ (r : List ℕ) (ks : List Known) (heading absent : ℕ) (output : List ℕ) (e : first (heading_rows r ks heading absent output) ≡ none) where
  -- none of the rows holds
  split : (first (row19 ks absent ∷ row8-output 3 output ∷ frame_rows r) ≡ none) × (first (row20 r ∷ row21 r ∷ row22 ks r ∷ []) ≡ none)
  unfolding heading_rows
  split = append-none (row19 ks absent ∷ row8-output 3 output ∷ frame_rows r) (row20 r ∷ row21 r ∷ row22 ks r ∷ []) e

  pub list_fine : Silent (row19 ks absent)
  list_fine = (all_silent (row19 ks absent ∷ row8-output 3 output ∷ frame_rows r) split.0).0

  pub frame_fine : first (frame_rows r) ≡ none
  frame_fine = (append-none (row19 ks absent ∷ row8-output 3 output ∷ []) (frame_rows r) split.0).1

  -- LAW: there is room
  pub room : 3 ≤ length output
  unfolding row8-output
  room = ltb-false (length output) 3 (at0-none (ltb (length output) 3) (all_silent (row19 ks absent ∷ row8-output 3 output ∷ frame_rows r) split.0).1.0)

  has_100 : missing (field100 r) ≡ false
  unfolding row20
  has_100 = at0-none (missing (field100 r)) (all_silent (row20 r ∷ row21 r ∷ row22 ks r ∷ []) split.1).0

  has_name : missing (name_in r) ≡ false
  unfolding row21
  has_name = at0-none (missing (name_in r)) (all_silent (row20 r ∷ row21 r ∷ row22 ks r ∷ []) split.1).1.0

  both_listed : (unlisted ks (name_in r) ≡ false) × (unlisted ks (dates_in r) ≡ false)
  unfolding row22
  both_listed =
      let o = or_none (at_if 0 (unlisted ks (name_in r))) (at_if 1 (unlisted ks (dates_in r))) (all_silent (row20 r ∷ row21 r ∷ row22 ks r ∷ []) split.1).1.1.0 in
      (at_none 0 (unlisted ks (name_in r)) o.0, at_none 1 (unlisted ks (dates_in r)) o.1)

  -- a string that is there and listed
  node_listed : (string : List ℕ) → unlisted ks (just string) ≡ false → Listed ks string (node_of ks absent (just string))
  node_listed string h = let n = there (number_in ks string) h in rw n.1 (is_listed ks absent list_fine string n.0 n.1)

  dates_node_lem : (o : Option (List ℕ)) → unlisted ks o ≡ false → DatesNode ks absent o (node_of ks absent o)
  dates_node_lem none h = refl
  dates_node_lem (just string) h = node_listed string h

  -- LAW: the three nodes
  pub heads : Heads r ks heading absent (heading_of r ks heading absent output)
  unfolding heading_of name_in dates_in field100
  heads =
      let c = there (field100 r) has_100 in
      let at : (code : ℕ) → then_in (field100 r) (subfield code) ≡ subfield code c.0 = λ code. ap (λ o. then_in o (subfield code)) c.1 in
      let n = there (name_in r) has_name in
      record {
        content = c.0;
        name = n.0;
        name_node = node_of ks absent (just n.0);
        dates_node = node_of ks absent (dates_in r);
        first_100 = first_with_lem tag100 (fields_in r) c.0 c.1;
        name_is = inv (at code_a) ∙ n.1;
        name_listed = node_listed n.0 (ap (unlisted ks) (inv n.1) ∙ both_listed.0);
        dates_are = subst (λ o. DatesNode ks absent o (node_of ks absent (dates_in r))) (at code_d) (dates_node_lem (dates_in r) both_listed.1);
        nodes_are = ap (λ o. heading ∷ node_of ks absent o ∷ node_of ks absent (dates_in r) ∷ []) n.1;
      }

-- ---- the call

-- THEOREM: the call
pub heads_call : (r : List ℕ) (ks : List Known) (heading absent : ℕ) (output : List ℕ) → HeadsCall r ks heading absent output (heading_call r ks heading absent output)
unfolding headed later_nodes
heads_call r ks heading absent output =
    record {
      refuses = exactly (heading_rows r ks heading absent output) aye;
      refusal_leaves = λ n place e. rw (unless_refused (first (heading_rows r ks heading absent output)) aye n place e);
      three_nodes = λ e.
          let q = (unless_gives (first (heading_rows r ks heading absent output)) aye aye e).0 in
          (heading_of r ks heading absent output, heads r ks heading absent output q, rw q);
    }

-- THEOREM: its rows stand in their order
pub heading_order : HeadingOrder
unfolding heading_rows row19 row8-output frame_rows row20 row21 row22
heading_order r ks heading absent output = refl

-- THEOREM: what it leaves
pub heading_leaves : (r : List ℕ) (ks : List Known) (heading absent : ℕ) (output : List ℕ) → HeadingLeaves output (heading_call r ks heading absent output)
unfolding headed later_nodes heading_of
heading_leaves r ks heading absent output =
    record {
      refusal_leaves = (heads_call r ks heading absent output).refusal_leaves;
      rest_stays = λ e. rw (unless_gives (first (heading_rows r ks heading absent output)) aye aye e).0;
      same_length = go (first (heading_rows r ks heading absent output)) refl;
    }
  where
    go : (o : Option Refusal) → first (heading_rows r ks heading absent output) ≡ o → length (later_nodes r ks heading absent output) ≡ length output
    go none e = rw e (omega (arith, room r ks heading absent output e, length-drop 3 output))
    go (just why) e = rw e

-- THEOREM: absent dates are never the same as given ones
pub absent_apart : (ks : List Known) (absent : ℕ) → Silent (row19 ks absent) → AbsentApart symbol_degree_lem ks absent
absent_apart ks absent s =
    record {
      nodes_differ = not_absent ks absent s;
      unless-listed = λ table string node e a b l h. (symbol_degrees table e).others absent node a b (λ q. not_absent ks absent s string node l (inv q)) h;
    }
