-- The walk passes strings with other bytes, and stops at one with the same.
use mathlib.Core.Path.{◌≡◌, sym, ◌∙◌}
use Prim.Native.Nat.{◌<◌}
use native.Mathlib.Omega.{arith}
use lib.Seq.{length-take-le}
use Rattle.meaning.proofs.First.{none_below, least_at}
use Rattle.known_strings.specs.Lent.{is_string}
use Rattle.known_strings.proofs.Seeking.{met, begins_next, one_passed}
use Rattle.known_strings.proofs.list.KnownStrings.position.Goals as goal
use Rattle.known_strings.proofs.list.KnownStrings.position.Goals.{After-same_bytes}

-- the string that was tested is the one of this turn
module _ (c : After-same_bytes) where
  inside : c.loop-j.j < c.args.n
  inside = omega (arith, length-take-le c.args.n c.args.self.ends.now c.requires)

  tested : c.same_bytes.result ≡ is_string c.args.self.text.now c.args.self.ends.now c.args.string.now c.loop-j.j
  tested =
      let a = c.args in
      met a.self.text.now a.self.ends.now a.string.now a.n c.loop-j.j c.loop-j.start c.loop-j.invariant.0 inside c.part.result.now c.same_bytes.result c.part.ensures c.same_bytes.ensures

pub returns-then-same_bytes : goal.returns-then-same_bytes
returns-then-same_bytes c =
    let here = (goal.at.returns-then-same_bytes c).After-same_bytes in
    let a = c.args in
    let is = is_string a.self.text.now a.self.ends.now a.string.now in
    sym (least_at is c.loop-j.j a.n (none_below is c.loop-j.j c.loop-j.invariant.1) (sym (tested here) ∙ c.if-same_bytes.true) (inside here))

pub loop-j-preserved : goal.loop-j-preserved
loop-j-preserved c =
    let here = (goal.at.loop-j-preserved c).After-same_bytes in
    let a = c.args in
    let is = is_string a.self.text.now a.self.ends.now a.string.now in
    (begins_next a.self.ends.now a.n c.loop-j.j (inside here), one_passed is c.loop-j.j c.loop-j.invariant.1 (sym (tested here) ∙ c.if-same_bytes.false))

pub returns : goal.returns
returns c =
    let a = c.args in
    let is = is_string a.self.text.now a.self.ends.now a.string.now in
    sym (none_below is a.n (λ i l. c.loop-j.invariant.1 i (omega (arith, length-take-le a.n a.self.ends.now c.requires))))
