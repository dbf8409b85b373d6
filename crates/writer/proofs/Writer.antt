-- Pairs that are counted up to the first that may not be listed, the front and then the pairs' bytes behind it: what comes of that is what the writer answers
-- and leaves. Said of any list of pairs, in whatever form code has them.
use mathlib.Core.Path.{◌≡◌, sym, ap, ◌∙◌}
use mathlib.Core.List.{List, ◌++◌}
use mathlib.Core.Option.{none, some as just}
use Prim.Native.Nat.{ℕ, ◌+◌, ◌<◌}
use native.Mathlib.Omega.{arith}
use borrow.Author.Tests.{lt-ltb}
use lib.Dec.{ltb}
use lib.ListN.{length, length-append}
use Rattle.theory.specs.Least.{All}
use Rattle.theory.specs.Pairs.{Pair, SoundPair}
use Rattle.theory.proofs.Lemmas.{or_right}
use Rattle.meaning.specs.Limits.{most_symbols, most_pairs}
use Rattle.meaning.specs.File.{total, header, pairs_bytes, file_of}
use Rattle.meaning.specs.Refusals.{Refusal, row, first, at0, outside, row2, row4, row8-output}
use Rattle.meaning.specs.Calls.{Answer, gives, refused, refused_as, writer_rows, written, later_output}
use Rattle.meaning.proofs.First.{all_silent}
use Rattle.meaning.proofs.Sound.{sound_pairs_lem}
use Rattle.meaning.proofs.Writing.{length_file}
use Rattle.meaning.specs.Over.{over}
use Rattle.writer.specs.Counted.{stop, counted_rows, counted_answer, begun_output}
use Rattle.meaning.proofs.Over.{over_next, over_front}
use Rattle.writer.proofs.Rows.{answered_none, answered_some, given_room, begun_given, begun_refused}

module _ (arities : List ℕ) (pairs : List Pair) (output : List ℕ) (sound : ℕ) where
  -- what is answered where so many pairs are sound, and the output once the front is written
  abbrev pub sound_answer : Answer ℕ
  sound_answer = counted_answer arities (length pairs) sound (length output)

  abbrev pub sound_front : List ℕ
  sound_front = begun_output arities (length pairs) sound output

  abbrev all : ℕ
  all = total (length arities) (length pairs)

  module _ (counted : row4 arities pairs ≡ row 4 (stop sound (length pairs))) where
    -- LAW: that is what the writer answers
    pub answer_written : sound_answer ≡ written arities pairs output
    unfolding counted_answer counted_rows written writer_rows row8-output
    answer_written = rw counted

    -- LAW: where it is a refusal, the output is left as it has to be
    pub refused_later : (r : Refusal) → refused_as r ≡ sound_answer → sound_front ≡ later_output arities pairs output
    unfolding written later_output
    refused_later r e =
        let later : first (writer_rows arities pairs output) ≡ _ = answered_some (first (writer_rows arities pairs output)) all r (e ∙ answer_written) in
        sym (begun_refused _ _ _ _ r e) ∙ rw later

    module _ (n : ℕ) (e : gives n ≡ sound_answer) where
      written_none : first (writer_rows arities pairs output) ≡ none
      unfolding written
      written_none = answered_none (first (writer_rows arities pairs output)) all n (e ∙ answer_written)

      pub written_sound : All (SoundPair arities) pairs
      unfolding writer_rows
      written_sound = sound_pairs_lem arities pairs (all_silent (writer_rows arities pairs output) written_none).1.1.0

      file_later : over output 0 (file_of arities pairs) ≡ later_output arities pairs output
      unfolding later_output
      file_later = over_front output (file_of arities pairs) ∙ rw (written_none, length_file arities pairs)

      -- LAW: where it is none, the pairs' bytes behind the front make the file
      pub written-later : {end : List ℕ} → end ≡ over sound_front (10 + length arities) (pairs_bytes pairs) → end ≡ later_output arities pairs output
      unfolding file_of
      written-later f =
          let h = header (length arities) (length pairs) in
          let at : 10 + length arities ≡ 0 + (10 + length arities) = omega arith in
          over_next output 0 (h ++ arities) (10 + length arities) (pairs_bytes pairs) (sym (begun_given _ _ _ _ n e))
          (f ∙ ap (λ i. over sound_front i (pairs_bytes pairs)) at) (length-append h arities) (omega (arith, given_room _ _ _ _ n e))
          ∙ file_later

-- LAW: pairs that are more than a table may have are refused for their number
module _ (arities : List ℕ) (pairs : List Pair) (output : List ℕ) (many : most_pairs < length pairs) where
  refused_row : row2 (length arities) (length pairs) ≡ row 2 (just 0)
  unfolding row2
  refused_row =
      let p = length pairs in
      ap (λ b. row 2 (at0 b)) (or_right (outside 1 most_symbols (length arities)) (outside 0 most_pairs p) (or_right (ltb p 0) (ltb most_pairs p) (lt-ltb most_pairs p many)))

  pub many_refused : refused 2 0 ≡ written arities pairs output
  unfolding written writer_rows
  many_refused = rw refused_row

  pub many_left : output ≡ later_output arities pairs output
  unfolding later_output writer_rows
  many_left = rw refused_row
