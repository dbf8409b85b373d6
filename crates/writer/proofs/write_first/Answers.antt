-- Pairs that are too many are refused whatever they are; else the numbers that are lent to the writer are those of the pairs.
use mathlib.Core.Path.{◌≡◌, sym, ap, ◌∙◌}
use mathlib.Core.List.{List}
use Prim.Native.Nat.{ℕ, ◌*◌, ◌≤◌}
use native.Mathlib.Omega.{arith}
use lib.ListN.{length, take, length-take}
use Rattle.theory.specs.Pairs.{Pair}
use Rattle.meaning.specs.Limits.{most_pairs}
use Rattle.meaning.specs.File.{pairs_of}
use Rattle.meaning.specs.Calls.{written, later_output}
use Rattle.writer.specs.Laid.{Laid}
use Rattle.writer.proofs.Numbers.{pairs_of_numbers}
use Rattle.writer.proofs.Writer.{many_refused, many_left}
use Rattle.writer.proofs.write_first.Goals as goal

-- the pairs that the numbers begin with
laid-pairs : (numbers : List ℕ) (n : ℕ) → n ≤ most_pairs → (pairs : List Pair) → length pairs ≡ n → Laid numbers pairs → pairs_of (take (3 * n) numbers) ≡ pairs
laid-pairs numbers n few pairs e laid = ap (λ m. pairs_of (take (3 * m) numbers)) (sym e) ∙ ap pairs_of (laid (omega arith)) ∙ pairs_of_numbers pairs

pub returns-then-pairs-gt-MOST_PAIRS : goal.returns-then-pairs-gt-MOST_PAIRS
returns-then-pairs-gt-MOST_PAIRS c =
    let a = c.args in
    record { result_value = (λ ps n laid. many_refused a.arities.now ps a.output.now (omega arith)); output_after = λ ps n laid. many_left a.arities.now ps a.output.now (omega arith) }

pub slice_bounds-write-end : goal.slice_bounds-write-end
slice_bounds-write-end c =
    let inside = c.requires (omega arith) in
    simp length-take (omega arith)

pub returns : goal.returns
returns c =
    let a = c.args in
    let few : a.pairs ≤ most_pairs = omega arith in
    let same = laid-pairs a.numbers.now a.pairs few in
    let wrote = c.write.ensures in record { result_value = λ ps n laid. wrote.result_value ∙ ap (λ qs. written a.arities.now qs a.output.now) (same ps n laid); output_after = λ ps n laid. wrote.output_after ∙ ap (λ qs. later_output a.arities.now qs a.output.now) (same ps n laid) }
