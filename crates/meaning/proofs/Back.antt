-- Reading back gives what stands in the file: of a table that is not refused only the index is tested, and the lists that are read hold at
-- it the bytes that stand there.
use mathlib.Core.Path.{◌≡◌, ap, ◌∙◌}
use mathlib.Core.List.{List, [], ◌∷◌}
use mathlib.Core.Option.{none, some as just}
use Prim.Native.Nat.{ℕ, ◌≤◌, ◌<◌}
use borrow.Author.Tests.{lt-ltb, le-ltb}
use Rattle.theory.specs.Pairs.{pair}
use Rattle.meaning.specs.File.{symbol_count_lem, pair_count_lem}
use Rattle.meaning.specs.Refusals.{refusal, first, row14, table_rows, SoundFile}
use Rattle.meaning.specs.Calls.{gives, back_rows, arity_back, pair_back}
use Rattle.meaning.specs.Tables.{ReadBack}
use Rattle.meaning.proofs.First.{first-append}
use Rattle.meaning.proofs.Bytes.{pair_in_lem, arity_in}

module _ (table : List ℕ) (e : SoundFile table) where
  -- there is such an index
  there : (index count : ℕ) → index < count → first (back_rows table index count) ≡ none
  unfolding back_rows row14
  there index count l = first-append (table_rows table) (row14 index count ∷ []) e ∙ rw (lt-ltb index count l)

  -- there is none
  missing : (index count : ℕ) → count ≤ index → first (back_rows table index count) ≡ just (refusal 14 0)
  unfolding back_rows row14
  missing index count l = first-append (table_rows table) (row14 index count ∷ []) e ∙ rw (le-ltb index count l)

  -- THEOREM: reading back
  pub reads_back : ReadBack table (arity_back table) (pair_back table)
  unfolding arity_back pair_back
  reads_back =
      record {
        arity = λ a l. rw (there a (symbol_count_lem table) l) (ap gives (arity_in table a l));
        no_symbol = λ a l. rw (missing a (symbol_count_lem table) l);
        pair = λ k l. rw (there k (pair_count_lem table) l) (ap gives (pair_in_lem table k l));
        no_pair = λ k l. rw (missing k (pair_count_lem table) l);
      }
