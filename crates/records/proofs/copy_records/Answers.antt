-- No record lies over the list at first; each turn lays the next one behind those before it.
use Rattle.std.proofs.Common.{ap, ◌∙◌, ◌*◌, ◌<◌, [], ◌∷◌, arith}
use lib.Seq.{get_or-take, length-take-le}
use Rattle.meaning.specs.File.{numbers_of_lem}
use Rattle.meaning.specs.Over.{over}
use Rattle.meaning.proofs.Over.{over_none}
use Rattle.records.specs.Records.{none}
use Rattle.records.proofs.Steps.{record_put}
use Rattle.records.proofs.copy_records.Goals as goal

pub loop-k-init : goal.loop-k-init
unfolding numbers_of_lem
loop-k-init c = over_none c.args.numbers.now 0

pub loop-k-preserved : goal.loop-k-preserved
loop-k-preserved c =
    let l = c.loop-k in
    let a = c.args in
    let inside : l.k < a.count = omega (arith, length-take-le a.count a.pairs.now (omega arith)) in
    record_put a.pairs.now l.k (omega arith) a.numbers.now (omega arith) l.invariant
    (c.put_three.ensures ∙ ap (λ r. over l.numbers (3 * l.k) (r.lower ∷ r.higher ∷ r.degree ∷ [])) (get_or-take a.count a.pairs.now l.k none (omega arith)))
