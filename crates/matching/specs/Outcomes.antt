-- What the search answers and leaves, in the meaning's words.
use Rattle.std.specs.Prelude.{List, ◌++◌, ℕ, ◌-◌, ◌*◌, length, take}
use Rattle.meaning.specs.Limits.{set_words_lem}
use Rattle.meaning.specs.Calls.{gives, degrees, Matched, zeros}
use Rattle.refusal.specs.Told.{refused_by}
use Rattle.refusal.specs.declared.Refusal.{Refusal}
use Rattle.packing.specs.declared.Search.{Search}

-- Refused so, with zeros in both buffers.
abbrev pub emptied : Refusal → List ℕ → List ℕ → Matched
emptied why spans sets = record { answer = refused_by why; spans = zeros (length spans); sets = zeros (length sets) }

-- A match: what is packed is kept, with zeros behind the words.
abbrev pub kept : Search → List ℕ → List ℕ → Matched
kept found spans sets =
    record {
      answer = gives (degrees found.degrees.lowest found.degrees.highest);
      spans = spans;
      sets = take (set_words_lem * found.packed) sets ++ zeros (length sets - set_words_lem * found.packed);
    }
