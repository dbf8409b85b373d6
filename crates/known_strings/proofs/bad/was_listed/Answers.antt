-- The search among the strings before it finds it, or does not.
use mathlib.Core.Path.{ap, ◌∙◌}
use mathlib.Core.List.{List}
use Prim.Native.Nat.{ℕ}
use Rattle.theory.specs.Least.{least_below}
use Rattle.known_strings.specs.Lent.{is_string, string_in}
use Rattle.known_strings.proofs.Seeking.{some_found}
use Rattle.known_strings.proofs.bad.was_listed.Goals as goal

pub returns : goal.returns
returns c =
    let k = c.args.known in
    let same_as = λ (string : List ℕ). least_below c.args.j (is_string k.text.now k.ends.now string) in
    c.is_some.ensures
    ∙ some_found (is_string k.text.now k.ends.now (string_in k.text.now k.ends.now c.args.j)) c.args.j c.position.result (c.position.ensures ∙ ap same_as c.string.ensures)
