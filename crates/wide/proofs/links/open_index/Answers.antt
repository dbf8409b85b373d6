-- The front of the list is zeros then, and the mark is one of them.
use Rattle.std.proofs.Common.{rules, ◌≡◌, length, take}
use Rattle.std.proofs.lemmas.List.{places}
use Rattle.meaning.specs.Calls.{zeros}
use Rattle.wide.proofs.Chains.{opened}
use Rattle.wide.proofs.links.open_index.Goals as goal

pub returns : goal.returns
returns c =
    let t = c.args.table in
    let index = c.args.index.now in
    let front : c.fill.new.self ≡ zeros (length (take c.heads.result index)) = c.fill.ensures.after (search rules) in
    let heads = c.heads.ensures in
    opened t.file.now t.sound _ (rw front (search (rules, places))) (λ i l. rw front (search (rules, places)))
