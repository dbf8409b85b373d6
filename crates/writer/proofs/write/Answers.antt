-- The pairs that were counted give the writer's own answer; where that is no refusal, every pair is whole, so the numbers' bytes behind the
-- front make the file.
use Rattle.std.proofs.Common.{◌≡◌, sym, ap, ◌∙◌, List, ℕ, ◌+◌, ◌%◌, length, arith}
use mathlib.Core.Path.{ap₂}
use Rattle.std.specs.Int.{div_ceil}
use Rattle.std.proofs.lemmas.Result.{err_from_is_err_and}
use Rattle.meaning.specs.File.{pairs_of}
use Rattle.meaning.specs.Refusals.{row, row4}
use Rattle.meaning.specs.Calls.{Answer, gives}
use Rattle.refusal.specs.Told.{told}
use Rattle.meaning.specs.Over.{over}
use Rattle.writer.specs.Counted.{stop, counted_answer, begun_output}
use Rattle.writer.proofs.Numbers.{length-pairs_of, bytes_of_pairs, sound_whole}
use Rattle.writer.proofs.Rows.{given_room}
use Rattle.writer.proofs.Writer.{sound_answer, sound_front, answer_written, refused_later, written_sound, written-later}
use Rattle.writer.proofs.write.Goals as goal

-- what the front came to, by the pairs
module _ (arities numbers output : List ℕ) (sound : ℕ) where
  pairs_are : (p : ℕ) → p ≡ div_ceil (length numbers) 3 → p ≡ length (pairs_of numbers)
  pairs_are p e = omega (arith, e, length-pairs_of numbers)

  answered : {a : Answer ℕ} (p : ℕ) → p ≡ div_ceil (length numbers) 3 → a ≡ counted_answer arities p sound (length output) → a ≡ sound_answer arities (pairs_of numbers) output sound
  answered p counted e = e ∙ ap (λ p. counted_answer arities p sound (length output)) (pairs_are p counted)

  front : {l : List ℕ} (p : ℕ) → p ≡ div_ceil (length numbers) 3 → l ≡ begun_output arities p sound output → l ≡ sound_front arities (pairs_of numbers) output sound
  front p counted e = e ∙ ap (λ p. begun_output arities p sound output) (pairs_are p counted)

  -- where it is no refusal
  whole : row4 arities (pairs_of numbers) ≡ row 4 (stop sound (length (pairs_of numbers))) → (n : ℕ) → gives n ≡ sound_answer arities (pairs_of numbers) output sound → length numbers % 3 ≡ 0
  whole counted n given = sound_whole arities numbers (written_sound arities (pairs_of numbers) output sound counted n given)

pub put_numbers-requires : goal.put_numbers-requires
put_numbers-requires c =
    let a = c.args.arities.now in
    let ns = c.args.numbers.now in
    let o = c.args.output.now in
    let s = c.sound_pairs.result in
    let given = answered a ns o s _ c.div_ceil-pairs.ensures c.in_ok-total.ensures.result_value in
    omega (arith, whole a ns o s c.sound_pairs.ensures _ given, length-pairs_of ns, given_room _ _ _ _ _ given, c.begin.auto)

pub returns : goal.returns
returns c =
    let a = c.args.arities.now in
    let ns = c.args.numbers.now in
    let o = c.args.output.now in
    let s = c.sound_pairs.result in
    let p = c.div_ceil-pairs.ensures in
    let counted = c.sound_pairs.ensures in
    let given = answered a ns o s _ p c.in_ok-total.ensures.result_value in
    record {
      result_value = given ∙ answer_written a (pairs_of ns) o s counted;
      output_after = written-later a (pairs_of ns) o s counted _ given
          (c.put_numbers.ensures ∙ ap₂ (λ l bytes. over l (10 + length a) bytes) (front a ns o s _ p c.in_ok-total.ensures.output_after) (sym (bytes_of_pairs ns (whole a ns o s counted _ given))));
    }

pub returns-in_err-total : goal.returns-in_err-total
returns-in_err-total c =
    let a = c.args.arities.now in
    let ns = c.args.numbers.now in
    let o = c.args.output.now in
    let s = c.sound_pairs.result in
    let p = c.div_ceil-pairs.ensures in
    let counted = c.sound_pairs.ensures in
    let answer = answered a ns o s _ p c.in_err-total.ensures.result_value in
    let e = err_from_is_err_and c.from_residual.result c.from_residual.ensures.1 in
    rw (e.1, e.2)
    (record {
      result_value = answer ∙ answer_written a (pairs_of ns) o s counted;
      output_after = front a ns o s _ p c.in_err-total.ensures.output_after ∙ refused_later a (pairs_of ns) o s counted (told _) answer;
    })
