-- A question asked again of a richer table: reading a list asks only for symbols and arities, and these are the same, so that a list which is a term over
-- the one is a term over the other. Where the second file is a table, its call is then refused by 1 to 8 only where the first is.
use mathlib.Core.Path.{◌∙◌}
use mathlib.Core.List.{List, [], ◌∷◌}
use mathlib.Core.Bool.{Bool, true, false}
use Prim.Native.Nat.{ℕ}
use Rattle.theory.specs.Tree.{Pattern}
use Rattle.theory.specs.Table.{Richer}
use Rattle.theory.proofs.Richer.{fine_richer}
use Rattle.meaning.specs.File.{table_in}
use Rattle.meaning.specs.Refusals.{Row, table_rows, SoundFile, row5, row6, row7, row8}
use Rattle.meaning.specs.Calls.{input_rows}
use Rattle.meaning.specs.Demands.{Accepted}
use Rattle.meaning.specs.Parts.{IsTerm}
use Rattle.meaning.proofs.First.{first-append, append-none, all_silent, silent_first}
use Rattle.meaning.proofs.Parts.{terms}

module _ (table₁ table₂ : List ℕ) (s₂ : SoundFile table₂) (more : Richer (table_in table₁) (table_in table₂)) where
  term_again : (vars : Bool) (list : List ℕ) → (p : Pattern) × IsTerm (table_in table₁) vars list p → (p : Pattern) × IsTerm (table_in table₂) vars list p
  term_again vars list t =
      let w = t.1 in (
        t.0,
        record { fine = fine_richer (table_in table₁) (table_in table₂) more vars t.0 w.fine; depth_at_most = w.depth_at_most; nodes_at_most = w.nodes_at_most; is = w.is },
      )

  -- THEOREM: what was not refused for its input or its room is not when it is asked again
  pub accepted_again : (pattern heading : List ℕ) (cut : ℕ) (spans sets : List ℕ) → Accepted table₁ pattern heading cut spans sets → Accepted table₂ pattern heading cut spans sets
  unfolding input_rows
  accepted_again pattern heading cut spans sets a =
      let r = append-none (table_rows table₁) (rest table₁) a in
      let s = all_silent (rest table₁) r.1 in
      let one = terms table₁ r.0 in
      let two = terms table₂ s₂ in
      let six = (two.six true pattern).1 (term_again true pattern ((one.six true pattern).0 (silent_first (row6 (table_in table₁) true pattern ∷ []) (s.1.0, tt)))) in
      let seven = (two.seven heading).1 (term_again false heading ((one.seven heading).0 (silent_first (row7 (table_in table₁) heading ∷ []) (s.1.1.0, tt)))) in
      first-append (table_rows table₂) (rest table₂) s₂
      ∙ silent_first (rest table₂)
      (s.0, ((all_silent (row6 (table_in table₂) true pattern ∷ []) six).0, ((all_silent (row7 (table_in table₂) heading ∷ []) seven).0, s.1.1.1)))
    where
      rest : List ℕ → List Row
      rest table = row5 cut ∷ row6 (table_in table) true pattern ∷ row7 (table_in table) heading ∷ row8 heading spans sets ∷ []
