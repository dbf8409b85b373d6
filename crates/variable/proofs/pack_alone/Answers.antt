-- After k turns the first k positions are packed, of the term that the nodes write.
use borrow.Author.Rules.{rules}
use mathlib.Core.Path.{◌≡◌, refl, sym as inv, ap, ◌∙◌}
use mathlib.Core.List.{[], ◌∷◌}
use mathlib.Core.Bool.{false, false≢true}
use Prim.Native.Nat.{min}
use native.Mathlib.Omega.{arith}
use lib.ListN.{length}
use Rattle.theory.specs.Match.{size}
use Rattle.meaning.specs.Limits.{set_words_lem}
use Rattle.sets.specs.Words.{Words}
use Rattle.sets.proofs.Laws.{words_of}
use Rattle.positions.proofs.Sharing.{near_members}
use Rattle.variable.proofs.Positions.{packed_none, packed_next}
use Rattle.variable.proofs.Alone.{itself_near, set_alone, lowest_alone, highest_alone}
use Rattle.variable.proofs.pack_alone.Goals as goal

pub loop-k-init : goal.loop-k-init
loop-k-init c = (omega arith, refl, λ T t cut writes known. packed_none T cut (t ∷ []) _)

pub loop-k-preserved : goal.loop-k-preserved
loop-k-preserved c =
    let loop = c.loop-k in
    let set = c.set_of in
    let many : length set.result.words ≡ set_words_lem = search rules in
    let words : Words set_words_lem set.result.words = search (rules, words_of) in (
      omega arith,
      c.put.auto.list ∙ loop.invariant.1,
      λ T t cut writes known.
          let near = near_members known.small (known.sets loop.k (omega arith)) _ many set.ensures in
          let here = near _ ∙ itself_near known t writes loop.k (omega arith) in
          packed_next T cut (t ∷ []) c.args.sets.now loop.k set.result.words false (loop.invariant.2 T t cut writes known) (omega (arith, c.requires.1)) words
          (λ s. near s ∙ set_alone known t writes loop.k (omega arith) s) c.put.ensures
          (λ e. absurd (false≢true e), λ none. absurd (false≢true (inv (none _) ∙ here))) refl
          (c.min-lowest.ensures ∙ ap (min loop.lowest) (c.lowest_of.ensures ∙ lowest_alone known t writes loop.k (omega arith)))
          (omega (arith, highest_alone known t writes loop.k (omega arith))),
    )

pub returns : goal.returns
returns c = λ T t writes cut known.
    let e : c.loop-k.k ≡ size t = omega (arith, ap length writes) in
    rw e at (c.loop-k.invariant.2 T t cut writes known)
