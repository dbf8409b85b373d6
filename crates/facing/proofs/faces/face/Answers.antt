-- Each turn passes one node of the pattern with what faces it: a symbol by its degree, a variable by a note of its subterm. Rows stay rows,
-- laid out or not.
use mathlib.Core.Path.{◌≡◌, refl, sym as inv, ap, ◌∙◌}
use Prim.Native.Nat.{ℕ, ◌≤◌, ◌<◌}
use native.Mathlib.Omega.{arith}
use lib.ListN.{length}
use Rattle.theory.specs.Table.{Table}
use Rattle.meaning.specs.File.{table_in}
use Rattle.meaning.specs.Calls.{faces_in}
use Rattle.degrees.specs.Rows.{RowsLaid}
use Rattle.degrees.proofs.Narrowing.{laid_before, laid_again}
use Rattle.table.specs.declared.sound_table.SoundTable.{SoundTable}
use Rattle.terms.specs.Kinds.{kind_of}
use Rattle.terms.specs.declared.kind.Kind.{Kind}
use Rattle.terms.specs.declared.kind.Kind.TheVariants.{Symbol, Variable}
use Rattle.terms.proofs.Nodes.{symbol_kind, variable_kind}
use Rattle.facing.proofs.Numbers.{length-numbers}
use Rattle.facing.proofs.Passing.{reads, few_nodes, passing_start, passing_symbol, passing_clash, symbol_faces, variable_faces, passing_variable, passing_kinds, passing_end}
use Rattle.facing.proofs.faces.face.Goals as goal
use Rattle.facing.proofs.faces.face.Goals.{then-i-eq-EARLY, else-i-eq-EARLY, in-Symbol+else-degree-cut, in-Variable, in-Neither}

-- ---- the node at which a turn stands, by its kind over as many symbols as the table has

module _ (t : SoundTable) (node : ℕ) (found : Kind) (asked : found ≡ kind_of t.symbols node) where
  kind_is : kind_of (table_in t.file.now).size node ≡ found
  kind_is = ap (λ s. kind_of s node) (inv t.symbols_are) ∙ inv asked

  is_symbol : (symbol : ℕ) → found ≡ Symbol symbol → (symbol ≡ node) × (node < (table_in t.file.now).size)
  is_symbol symbol e = symbol_kind (table_in t.file.now).size node symbol (kind_is ∙ e)

  is_variable : (v : ℕ) → found ≡ Variable v → (table_in t.file.now).size ≤ node
  is_variable v e = omega (arith, t.symbols_are, t.few, (variable_kind (table_in t.file.now).size node v (kind_is ∙ e)).0)

-- its degree with the one that faces it
degree_is : (T : Table) (symbol node other degree : ℕ) → symbol ≡ node → degree ≡ T.deg symbol other → degree ≡ T.deg node other
degree_is T symbol node other degree e d = d ∙ ap (λ s. T.deg s other) e

pub loop-i-init : goal.loop-i-init
loop-i-init c = (refl, refl, laid_before c.requires.rows, passing_start (reads c.args.table c.requires.pattern_reads c.requires.heading_reads) _ _)

pub bounds-heading-at : goal.bounds-heading-at
bounds-heading-at c =
    let a = c.args in
    let is = is_symbol a.table _ _ c.kind_of.ensures _ c.in-Symbol.is in
    (symbol_faces (reads a.table c.requires.pattern_reads c.requires.heading_reads) _ c.loop-i.invariant.3 (omega arith) is.1).0

pub degree_in_row-degree-requires-clause-symbols : goal.degree_in_row-degree-requires-clause-symbols
degree_in_row-degree-requires-clause-symbols c =
    let a = c.args in
    let is = is_symbol a.table _ _ c.kind_of.ensures _ c.in-Symbol.is in
    let faces = symbol_faces (reads a.table c.requires.pattern_reads c.requires.heading_reads) _ c.loop-i.invariant.3 (omega arith) is.1 in
    (omega (arith, is.0, is.1), faces.1)

pub returns-then-degree-cut-clause-faced_by : goal.returns-then-degree-cut-clause-faced_by
unfolding faces_in
returns-then-degree-cut-clause-faced_by c =
    let a = c.args in
    let is = is_symbol a.table _ _ c.kind_of.ensures _ c.in-Symbol.is in
    let met = degree_is (table_in a.table.file.now) _ _ _ _ is.0 c.degree_in_row-degree.ensures in
    passing_clash (reads a.table c.requires.pattern_reads c.requires.heading_reads) _ c.loop-i.invariant.3 (omega arith) is.1 (omega (arith, met))

pub note_subterm-at-requires-clause-stands : goal.note_subterm-at-requires-clause-stands
note_subterm-at-requires-clause-stands c =
    let a = c.args in
    let is = is_variable a.table _ _ c.kind_of.ensures _ c.in-Variable.is in
    let r = reads a.table c.requires.pattern_reads c.requires.heading_reads in
    (variable_faces r _ c.loop-i.invariant.3 (omega arith) is, few_nodes r)

pub loop-i-preserved : goal.loop-i-preserved
loop-i-preserved c =
    let a = c.args in
    let r = reads a.table c.requires.pattern_reads c.requires.heading_reads in
    let rows : RowsLaid a.table.file.now c.args.rows.now c.if-i-eq-EARLY.rows =
    elim c.if-i-eq-EARLY.branch [
      | then-i-eq-EARLY w ↦ rw w.rows-is (laid_again c.loop-i.invariant.2 w.lay_where_worth.ensures)
      | else-i-eq-EARLY w ↦ rw w.rows-is c.loop-i.invariant.2
    ] in
    let kept = c.loop-i.invariant in
    let notes : length c.match-kind_of.notes ≡ length c.args.notes.now = omega arith in
    elim c.match-kind_of.branch [
      | in-Symbol+else-degree-cut w ↦
          let is = is_symbol a.table _ _ c.kind_of.ensures _ w.in-Symbol.is in
          let met = degree_is (table_in a.table.file.now) _ _ _ _ is.0 w.degree_in_row-degree.ensures in
          let s = passing_symbol r _ kept.3 (omega arith) is.1 c.requires.room.0 (omega (arith, w.if-degree-cut.false, met)) in
          (omega arith, notes, rows, rw (w.notes-is, w.least-is, w.at-is, w.min-least.ensures, met) s)
      | in-Variable w ↦
          let is = is_variable a.table _ _ c.kind_of.ensures _ w.in-Variable.is in
          let s = passing_variable r _ kept.3 (omega arith) is _ w.note_subterm-at.ensures.at_value (omega (arith, length-numbers c.loop-i.notes)) in
          (omega arith, notes, rows, rw (w.notes-is, w.note_subterm-at.ensures.notes_after, w.least-is, w.at-is) s)
      | in-Neither w ↦ absurd (passing_kinds r _ kept.3 (omega arith) (kind_is a.table _ _ c.kind_of.ensures ∙ w.in-Neither.is))
    ]

pub returns-clause-faced_by : goal.returns-clause-faced_by
unfolding faces_in
returns-clause-faced_by c =
    let e = passing_end (reads c.args.table c.requires.pattern_reads c.requires.heading_reads) _ c.loop-i.invariant.3 (omega arith) in
    record { clear = e.0; lowest = e.1; noted = e.2 }
