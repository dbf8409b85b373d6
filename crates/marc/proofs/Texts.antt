-- The text of an input is that of the record that comes next, and then that of what is left.
use mathlib.Core.Path.{◌≡◌, sym, ap, ◌∙◌}
use mathlib.Core.List.{List, [], ◌++◌, append_assoc}
use Prim.Native.Nat.{ℕ, ◌+◌}
use Rattle.marc.specs.Known.{Known}
use Rattle.marc.specs.Stream.{comes, no_more, next_in, records_in}
use Rattle.marc.specs.Printed.{record_line, answer_text, text_from}
use Rattle.marc.proofs.Streams.{records_step, records_none}

module _ (heading absent : ℕ) (ks : List Known) (k : ℕ) (input : List ℕ) where
  -- LAW: a record's lines, and the text of the rest
  pub text_next : (bytes left : List ℕ) → next_in input ≡ comes bytes left
      → text_from heading absent ks k (records_in input) ≡ (record_line k ++ answer_text heading absent ks bytes) ++ text_from heading absent ks (k + 1) (records_in left)
  text_next bytes left e =
      ap (text_from heading absent ks k) (records_step input bytes left e)
      ∙ sym (append_assoc (record_line k) (answer_text heading absent ks bytes) (text_from heading absent ks (k + 1) (records_in left)))

  -- LAW: where no record comes nothing is said
  pub text_none : next_in input ≡ no_more → text_from heading absent ks k (records_in input) ≡ []
  text_none e = ap (text_from heading absent ks k) (records_none input e)
