-- After i turns the variables of the first i nodes are packed, each where it is first met: a variable's node whose span is empty is packed with the
-- notes that are gathered for it, and any other node is passed over.
use borrow.Author.Rules.{rules}
use mathlib.Core.Path.{◌≡◌, refl, sym as inv, ap, ◌∙◌}
use mathlib.Core.List.{List}
use Prim.Native.Nat.{ℕ, ◌+◌, ◌-◌, ◌*◌, ◌≤◌, ◌<◌}
use native.Mathlib.Omega.{arith}
use lib.ListN.{length, get_or, take}
use Rattle.theory.specs.Table.{Table}
use Rattle.meaning.specs.Limits.{set_words_lem, variable_count, span_width}
use Rattle.meaning.specs.File.{table_in}
use Rattle.meaning.specs.Calls.{zeros, faces_in}
use Rattle.table.specs.declared.sound_table.SoundTable.{SoundTable}
use Rattle.near.specs.Near.{NearSets}
use Rattle.facing.specs.Notes.{note_at, numbers_of}
use Rattle.facing.specs.declared.notes.Note.{Note}
use Rattle.facing.specs.Gathering.{GatheredBy}
use Rattle.terms.specs.Kinds.{kind_of}
use Rattle.terms.specs.declared.kind.Kind.{Kind}
use Rattle.terms.specs.declared.kind.Kind.TheVariants.{Variable}
use Rattle.terms.proofs.Nodes.{variable_kind}
use Rattle.packing.specs.Pack.{Packable, NearWhere}
use Rattle.variable.specs.Variable.{OwnNotes}
use Rattle.variable.proofs.Positions.{positions-first}
use Rattle.packing.proofs.Notes.{rest_long, noted_next, near_of, gathered_own, own_notes, own_first}
use Rattle.packing.proofs.Searching.{searched_none}
use Rattle.packing.proofs.Meeting.{NewAt, along_all, along_other, along_met, new_at, along_new}
use Rattle.packing.proofs.pack.Goals as goal
use Rattle.packing.proofs.pack.Goals.{After-gather-count, in-Variable+then-spans-v-eq0, in-Variable+else-spans-v-eq0, in_default}

-- ---- at a node that is variable v

-- the node's kind, over as many symbols as the table has
kind_is : (t : SoundTable) (node : ℕ) {found : Kind} → found ≡ kind_of t.symbols node → kind_of (table_in t.file.now).size node ≡ found
kind_is t node e = ap (λ s. kind_of s node) (inv t.symbols_are) ∙ inv e

-- the near sets are gathered
near_here : {table pattern heading near : List ℕ} {cut i v : ℕ} → NearWhere table pattern heading cut near → i < length pattern
    → kind_of (table_in table).size (get_or pattern i 0) ≡ Variable v → NearSets (table_in table) cut heading near
near_here w l is = w.gathered _ l (omega (arith, (variable_kind _ _ _ is).0))

-- the notes of a variable are enough to pack it, and its sets fit behind what is packed
record OwnFit (T : Table) (near heading : List ℕ) (packed : ℕ) (own : List Note) : Type 0 where
  own_are : OwnNotes T near heading own
  fits : packed + (note_at own 0).size ≤ length heading

own_fit : (own : List Note) {table pattern heading near notes : List ℕ} {cut i v packed count : ℕ} → Packable table pattern heading cut notes → NearWhere table pattern heading cut near
    → i < length pattern → kind_of (table_in table).size (get_or pattern i 0) ≡ Variable v
    → NewAt (table_in table) (faces_in table pattern heading) (length heading) i v packed → GatheredBy pattern notes v count (numbers_of own) → count ≤ length own
    → OwnFit (table_in table) near heading packed (take count own)
own_fit own k w l is new g enough =
    let sets = near_here w l is in
    let first = own_first k w.room sets own g new.some enough in
    record { own_are = own_notes k w.room sets own g new.some enough; fits = omega (arith, new.fits, first) }

-- variable v stands there for the first time, and its notes are gathered
module _ (c : goal.After-gather-count) where
  new_here : OwnFit (table_in c.args.asked.table.file.now) c.args.near.now c.args.asked.heading.now c.loop-node.search.packed (take c.gather-count.result c.gather-count.new.own)
  new_here =
      let a = c.args.asked in
      let g = c.requires.packable_at in
      let kind = kind_is a.table (get_or a.pattern.now c.loop-node.node-index 0) c.kind_of.ensures ∙ c.in-Variable.is in
      let new = new_at g.packable (c.loop-node.invariant.6 g.cut g.packable g.gathered) c.loop-node-test.true kind c.if-spans-v-eq0.true in
      own_fit c.gather-count.new.own g.packable g.gathered c.loop-node-test.true kind new c.gather-count.ensures (omega (arith, c.gather-count.ensures.few, c.requires.index.1.of_own, c.loop-node.invariant.2, c.gather-count.auto.own))

  few_here : c.loop-node.search.packed + (note_at (take c.gather-count.result c.gather-count.new.own) 0).size ≤ 1024
  few_here = omega (arith, new_here.fits, new_here.own_are.few)

  room_here : set_words_lem * (c.loop-node.search.packed + (note_at (take c.gather-count.result c.gather-count.new.own) 0).size) ≤ length c.loop-node.sets
  room_here = omega (arith, new_here.fits, c.requires.index.1.of_sets, c.loop-node.invariant.4)

pub loop-node-init : goal.loop-node-init
loop-node-init c =
    let all = length c.args.spans.now in
    let n : all ≡ span_width * variable_count + (all - span_width * variable_count) = omega (arith, c.requires.index.1.of_spans) in
    (omega arith, refl, refl, refl, refl, c.requires.index.0, λ cut k w. searched_none _ _ _ _ _ _ c.requires.least_value (c.requires.spans_value ∙ ap zeros n))

-- the variable is one that a span has room for
below : (t : SoundTable) (node v : ℕ) {found : Kind} → found ≡ kind_of t.symbols node → found ≡ Variable v → v < variable_count
below t node v e is = (variable_kind _ _ _ (kind_is t node e ∙ is)).1

pub bounds-spans-v : goal.bounds-spans-v
bounds-spans-v c =
    omega (arith, below c.args.asked.table _ _ c.kind_of.ensures c.in-Variable.is, c.requires.index.1.of_spans, c.loop-node.invariant.3)

pub gather-count-requires : goal.gather-count-requires
gather-count-requires c =
    let room = c.requires.index.1 in
    (below c.args.asked.table _ _ c.kind_of.ensures c.in-Variable.is, room.of_notes, omega (arith, room.of_own, c.loop-node.invariant.2))

pub bounds-own-0 : goal.bounds-own-0
bounds-own-0 c = omega (arith, (new_here (goal.at.bounds-own-0 c).After-gather-count).own_are.some)

pub overflow_mul-from : goal.overflow_mul-from
overflow_mul-from c = omega (arith, few_here (goal.at.overflow_mul-from c).After-gather-count)

pub offset_bounds-sets-from : goal.offset_bounds-sets-from
offset_bounds-sets-from c = omega (arith, few_here (goal.at.offset_bounds-sets-from c).After-gather-count)

pub slice_bounds-pack_variable-count : goal.slice_bounds-pack_variable-count
slice_bounds-pack_variable-count c = omega (arith, room_here (goal.at.slice_bounds-pack_variable-count c).After-gather-count)

pub slice_bounds-pack_variable-start : goal.slice_bounds-pack_variable-start
slice_bounds-pack_variable-start c = omega (arith, room_here (goal.at.slice_bounds-pack_variable-start c).After-gather-count)

pub pack_variable-found-requires : goal.pack_variable-found-requires
pack_variable-found-requires c =
    let here = (goal.at.pack_variable-found-requires c).After-gather-count in
    let rest = rest_long c.loop-node.sets (set_words_lem * c.loop-node.search.packed) (omega (arith, room_here here)) in
    record { own_notes = (c.loop-node.invariant.5, (new_here here).own_are); notes_in_bounds = omega (arith, room_here here, rest) }

pub note_variable-search-requires : goal.note_variable-search-requires
note_variable-search-requires c =
    let here = (goal.at.note_variable-search-requires c).After-gather-count in
    let room = c.requires.index.1.of_spans in (
      omega (arith, room, c.loop-node.invariant.3, below c.args.asked.table _ _ c.kind_of.ensures c.in-Variable.is),
      omega (arith, few_here here),
    )

pub loop-node-preserved : goal.loop-node-preserved
loop-node-preserved c =
    let kept = c.loop-node.invariant in
    let a = c.args.asked in
    let here = c.loop-node-test.true in
    let read = kind_is a.table (get_or a.pattern.now c.loop-node.node-index 0) c.kind_of.ensures in
    elim c.match-kind_of.branch [
      | in-Variable+then-spans-v-eq0 w ↦
          let g = c.requires.packable_at in
          let kind = read ∙ w.in-Variable.is in
          let new = new_at g.packable (kept.6 g.cut g.packable g.gathered) here kind w.if-spans-v-eq0.true in
          let packed = w.pack_variable-found in
          let enough : w.gather-count.result ≤ length w.gather-count.new.own = omega (arith, w.gather-count.ensures.few, c.requires.index.1.of_own, kept.2, w.gather-count.auto.own) in
          let fit = own_fit w.gather-count.new.own g.packable g.gathered here kind new w.gather-count.ensures enough in
          rw (w.index-is, w.own-is, w.spans-is, w.sets-is, w.search-is) (
            omega arith,
            packed.auto.index ∙ kept.1,
            w.gather-count.auto.own ∙ kept.2,
            w.note_variable-search.auto.spans ∙ kept.3,
            search rules,
            packed.ensures.index,
            λ cut k near.
                let sets = near_here near here kind in
                let own = gathered_own k near.room sets w.gather-count.new.own w.gather-count.ensures new.some enough in
                let first = positions-first _ own fit.own_are.some in
                along_new k (kept.6 cut k near) here new c.requires.index.1.of_sets
                (noted_next (omega (arith, fit.fits, c.requires.index.1.of_sets, kept.4)) (packed.ensures.variable_packed _ own cut (near_of k near.room sets)) refl first w.note_variable-search.ensures),
          )
      | in-Variable+else-spans-v-eq0 w ↦
          rw (w.index-is, w.own-is, w.spans-is, w.sets-is, w.search-is)
          (omega arith, kept.1, kept.2, kept.3, kept.4, kept.5, λ cut k near. along_met k (kept.6 cut k near) here (read ∙ w.in-Variable.is) w.if-spans-v-eq0.false)
      | in_default w ↦
          rw (w.index-is, w.own-is, w.spans-is, w.sets-is, w.search-is)
          (omega arith, kept.1, kept.2, kept.3, kept.4, kept.5, λ cut k near. along_other k (kept.6 cut k near) here (λ v e. w.in_default.not-Variable v (inv read ∙ e)))
    ]

pub returns : goal.returns
returns c = λ cut k near. along_all k (c.loop-node.invariant.6 cut k near) c.loop-node-test.false
