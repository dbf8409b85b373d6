-- A call with one row of a number is refused by it exactly if that row holds and none before it does; and the rows of 6 and 7 hold exactly of lists that write
-- no tree within the limits.
use mathlib.Core.Path.{◌≡◌, refl, ◌∙◌}
use mathlib.Core.Logic.{◌↔◌}
use mathlib.Core.List.{List, [], ◌∷◌, ◌++◌}
use mathlib.Core.Bool.{true, false}
use mathlib.Core.Option.{none}
use Prim.Native.Nat.{ℕ}
use borrow.Author.Tests.{le-ltb}
use Rattle.theory.specs.Table.{Table}
use Rattle.theory.specs.Read.{reading}
use Rattle.meaning.specs.File.{table_in}
use Rattle.meaning.specs.Refusals.{Row, first, outside, fault_of, row1_short, row1_offsets, row2, row3, row4, row5, row6, row7, row8, row9, row10, table_rows, SoundFile}
use Rattle.meaning.specs.Calls.{gives, aye, degree_rows, input_rows, search_rows, match_rows}
use Rattle.meaning.specs.Parts.{TermLists}
use Rattle.meaning.proofs.First.{all_silent, first-append, append-none}
use Rattle.meaning.proofs.Sound.{at0-none, inside_of}
use Rattle.meaning.proofs.Parts.{terms}
use Rattle.demands.specs.Program.{Program}
use Rattle.demands.specs.Demand1.{Demand1}
use Rattle.demands.specs.NoTerm.{ATerm, NoTerm, RefusedBy, IsCut, RefusesNoTerms}
use Rattle.demands.proofs.Exact.{of_answer, by_one_row}

-- the row of the cut
is_cut : (cut : ℕ) → first (row5 cut ∷ []) ≡ none ↔ IsCut cut
unfolding row5
is_cut cut = ((λ e. inside_of 1 1000 cut (at0-none (outside 1 1000 cut) (all_silent (row5 cut ∷ []) e).0)), (λ c. rw (le-ltb cut 1 c.0, le-ltb 1000 cut c.1)))

module _ (P : Program) (d : Demand1 P) (table : List ℕ) (accepted : P.is_table_lem table ≡ gives aye) where
  abbrev T : Table
  T = table_in table

  sound : SoundFile table
  sound = of_answer (table_rows table) (P.is_table_lem table) (d.is_table_lem-is table) aye accepted

  lists : TermLists table
  lists = terms table sound

  -- rows behind the table's
  behind : (rows : List Row) → first (table_rows table ++ rows) ≡ none ↔ (first rows ≡ none)
  behind rows = ((λ e. (append-none (table_rows table) rows e).1), (λ e. first-append (table_rows table) rows sound ∙ e))

  first_heading : (one two : List ℕ) → RefusedBy 6 (P.heading_degree table one two) ↔ NoTerm T false one
  unfolding degree_rows table_rows row1_short row1_offsets row2 row3 row4 row6 row7
  first_heading one two =
      let r = by_one_row 6 (fault_of (reading T false one)) (table_rows table) (row7 T two ∷ []) refl refl (P.heading_degree table one two) (d.heading_degree_lem table one two) in
      ((λ q t. (r.0 q).1 ((lists.six false one).1 t)), (λ n. r.1 (sound, λ e. n ((lists.six false one).0 e))))

  second_heading : (one two : List ℕ) → RefusedBy 7 (P.heading_degree table one two) ↔ (ATerm T false one × NoTerm T false two)
  unfolding degree_rows table_rows row1_short row1_offsets row2 row3 row4 row6 row7
  second_heading one two =
      let before = row6 T false one ∷ [] in
      let r = by_one_row 7 (fault_of (reading T false two)) (table_rows table ++ before) [] refl refl (P.heading_degree table one two) (d.heading_degree_lem table one two) in (
        (λ q. let s = r.0 q in ((lists.six false one).0 ((behind before).0 s.0), λ t. s.1 ((lists.seven two).1 t))),
        (λ n. r.1 ((behind before).1 ((lists.six false one).1 n.0), λ e. n.1 ((lists.seven two).0 e))),
      )

  module _ (pattern heading : List ℕ) (cut : ℕ) (spans sets : List ℕ) where
    of_pattern : RefusedBy 6 (P.match table pattern heading cut spans sets).answer ↔ (IsCut cut × NoTerm T true pattern)
    unfolding match_rows input_rows search_rows table_rows row1_short row1_offsets row2 row3 row4 row5 row6 row7 row8 row9 row10
    of_pattern =
        let before = row5 cut ∷ [] in
        let after = row7 T heading ∷ row8 heading spans sets ∷ search_rows table pattern heading cut in
        let r = by_one_row 6 (fault_of (reading T true pattern)) (table_rows table ++ before) after refl refl _ (d.match table pattern heading cut spans sets) in (
          (λ q. let s = r.0 q in ((is_cut cut).0 ((behind before).0 s.0), λ t. s.1 ((lists.six true pattern).1 t))),
          (λ n. r.1 ((behind before).1 ((is_cut cut).1 n.0), λ e. n.1 ((lists.six true pattern).0 e))),
        )

    of_heading : RefusedBy 7 (P.match table pattern heading cut spans sets).answer ↔ (IsCut cut × ATerm T true pattern × NoTerm T false heading)
    unfolding match_rows input_rows search_rows table_rows row1_short row1_offsets row2 row3 row4 row5 row6 row7 row8 row9 row10
    of_heading =
        let before = row5 cut ∷ row6 T true pattern ∷ [] in
        let after = row8 heading spans sets ∷ search_rows table pattern heading cut in
        let r = by_one_row 7 (fault_of (reading T false heading)) (table_rows table ++ before) after refl refl _ (d.match table pattern heading cut spans sets) in (
          (λ q.
              let s = r.0 q in
              let t = append-none (row5 cut ∷ []) (row6 T true pattern ∷ []) ((behind before).0 s.0) in
              ((is_cut cut).0 t.0, (lists.six true pattern).0 t.1, λ t. s.1 ((lists.seven heading).1 t))),
          (λ n.
              let f = first-append (row5 cut ∷ []) (row6 T true pattern ∷ []) ((is_cut cut).1 n.0) ∙ (lists.six true pattern).1 n.1 in
              r.1 ((behind before).1 f, λ e. n.2 ((lists.seven heading).0 e))),
        )

  -- THEOREM
  pub refuses_no_terms : RefusesNoTerms P table
  refuses_no_terms = record { first_heading = first_heading; second_heading = second_heading; pattern = of_pattern; heading = of_heading }
