-- A record as one writes it, through the whole call: its fields and their subfields are read as they were written, so its name and dates are the strings
-- that were written; they are listed, so their numbers are found; and no row holds.
use mathlib.Core.Path.{◌≡◌, refl, sym as inv, ap, ◌∙◌, subst}
use mathlib.Core.List.{List, [], ◌∷◌, ◌++◌}
use mathlib.Core.Bool.{false}
use mathlib.Core.Option.{Option, none, some as just}
use Prim.Native.Nat.{ℕ, ◌≤◌}
use native.Mathlib.Omega.{arith}
use lib.ListN.{length, drop}
use borrow.Author.Tests.{ne_eqb, le-ltb}
use Rattle.meaning.specs.Refusals.{first, row8-output}
use Rattle.meaning.specs.Calls.{gives, aye}
use Rattle.meaning.proofs.First.{Silent, first-append, none_below, silent_first}
use Rattle.marc.specs.Frame.{frame_rows}
use Rattle.marc.specs.Subfields.{subfield_mark, subfield}
use Rattle.marc.specs.Known.{Known, string_of, number_of, entry_of, bad_entry_lem, row19}
use Rattle.marc.specs.Heading.{tag100, code_a, code_d, first_with, then_in, field100, name_in, dates_in, row20, row21, row22, unlisted, node_of, heading_rows, heading_of, headed, later_nodes, heading_call}
use Rattle.marc.specs.Plain.{record_of, subfields_bytes}
use Rattle.marc.specs.Reading.{first_coded, Listed, DatesNode, FineList, ReadsWritten}
use Rattle.marc.proofs.Strings.{none-same, number-listed}
use Rattle.marc.proofs.Headings.{with_first}
use Rattle.marc.proofs.Parts.{reads_subfields}
use Rattle.marc.proofs.Plain.{reads_plain}

-- LAW: a fine list is not refused
pub fine_list : (ks : List Known) (absent : ℕ) → FineList ks absent → Silent (row19 ks absent)
unfolding row19
fine_list ks absent f =
    none_below (bad_entry_lem ks absent) (length ks)
    (λ j l. rw (none-same (λ i. string_of (entry_of ks i)) j (λ i m. f.none_twice i j m l), ne_eqb (number_of (entry_of ks j)) absent (f.none_absent j l)))

-- ---- the call

module _ (ks : List Known) (absent : ℕ) where
  node_is : (string : List ℕ) (n : ℕ) → Listed ks string n → (unlisted ks (just string) ≡ false) × (node_of ks absent (just string) ≡ n)
  node_is string n l = let e = number-listed ks string n l in (rw e, rw e)

  dates_are : (o : Option (List ℕ)) (n : ℕ) → DatesNode ks absent o n → (unlisted ks o ≡ false) × (node_of ks absent o ≡ n)
  dates_are none n e = (refl, inv e)
  dates_are (just string) n l = node_is string n l

-- a record with these name and dates is answered with their numbers
module _ (r : List ℕ) (ks : List Known) (heading absent : ℕ) (output : List ℕ) (content name : List ℕ) (name_node dates_node : ℕ) where
  module _ (fine : FineList ks absent) (room : 3 ≤ length output) (frame : first (frame_rows r) ≡ none) (c : field100 r ≡ just content) (n : name_in r ≡ just name) where
    silent : unlisted ks (just name) ≡ false → unlisted ks (dates_in r) ≡ false → first (heading_rows r ks heading absent output) ≡ none
    unfolding heading_rows row8-output row20 row21 row22
    silent a d =
        let last = row20 r ∷ row21 r ∷ row22 ks r ∷ [] in
        first-append (row19 ks absent ∷ row8-output 3 output ∷ []) (frame_rows r ++ last)
        (silent_first (row19 ks absent ∷ row8-output 3 output ∷ []) (fine_list ks absent fine, (rw (le-ltb (length output) 3 room), tt)))
        ∙ first-append (frame_rows r) last frame
        ∙ silent_first last (rw c, (rw n, (rw (n, a, d), tt)))

    answers : Listed ks name name_node → DatesNode ks absent (dates_in r) dates_node
        → (headed r ks heading absent output ≡ gives aye) × (later_nodes r ks heading absent output ≡ heading ∷ name_node ∷ dates_node ∷ drop 3 output)
    unfolding headed later_nodes heading_of
    answers ln ld =
        let a = node_is ks absent name name_node ln in
        let d = dates_are ks absent (dates_in r) dates_node ld in
        let q = silent a.0 d.0 in
        (rw q, rw (q, n, a.1, d.1))

-- THEOREM: records as one writes them
pub reads_written : (ks : List Known) → ReadsWritten ks (λ bytes. heading_call bytes ks)
unfolding field100 name_in dates_in
reads_written ks one two fs h ss w absent fine name an name_node ln dates_node ld heading output room =
    let r = record_of one two fs in
    let content = w.one ∷ w.two ∷ (w.between ++ subfields_bytes ss) in
    let plain = reads_plain one two fs h in
    let c : field100 r ≡ just content = ap (first_with tag100) plain.1 ∙ with_first tag100 fs content w.first_100 in
    let part : (code : ℕ) → (code ≡ subfield_mark → ⊥) → then_in (field100 r) (subfield code) ≡ first_coded code ss
    = λ code n. ap (λ o. then_in o (subfield code)) c ∙ reads_subfields w.one w.two code w.between ss n w.unmarked w.fine in
    answers r ks heading absent output content name name_node dates_node fine room plain.0 c (part code_a (λ e. omega arith) ∙ an) ln
    (subst (λ o. DatesNode ks absent o dates_node) (inv (part code_d (λ e. omega arith))) ld)
