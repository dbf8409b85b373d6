-- Writing and reading undo one another: what the writer lays down is the file of what it was given, and reading that gives it back;
-- what a table holds passes the writer's rows, since it has passed the reader's, and its file is the table.
use mathlib.Core.Path.{◌≡◌, sym as inv, ap, ap₂, ◌∙◌}
use mathlib.Core.List.{List, ◌++◌}
use mathlib.Core.Option.{none}
use Prim.Native.Nat.{ℕ, ◌≤◌}
use native.Mathlib.Omega.{arith}
use lib.Seq.{take_at, drop_at}
use lib.ListN.{length, take, drop}
use Rattle.theory.specs.Pairs.{Pair}
use Rattle.meaning.specs.File.{symbol_count_lem, pair_count_lem, total, arities_in, pairs_in, file_of}
use Rattle.meaning.specs.Refusals.{first, row2, table_rows, SoundFile}
use Rattle.meaning.specs.Calls.{refused, gives, writer_rows, written, later_output}
use Rattle.meaning.specs.Tables.{Bytes, write_call, Writes, WritesAgain, RoundTrip}
use Rattle.meaning.proofs.First.{Silent, all_silent, silent_first, unless_gives, unless_refused}
use Rattle.meaning.proofs.Sound.{passed, length-pairs_in, length-arities_in}
use Rattle.meaning.proofs.Silent.{silent_output}
use Rattle.meaning.proofs.Writing.{ReadWritten, read_back, write_back, length_file}

-- ---- what the writer gives

module _ (arities : List ℕ) (pairs : List Pair) (output : List ℕ) where
  abbrev size : ℕ
  size = total (length arities) (length pairs)

  -- no row refuses: the file is written, and what was past it stays
  taken : first (writer_rows arities pairs output) ≡ none
      → (written arities pairs output ≡ gives size) × (later_output arities pairs output ≡ file_of arities pairs ++ drop size output)
  unfolding written later_output
  taken e = (rw e, rw e)

  accepted : (n : ℕ) → written arities pairs output ≡ gives n → (first (writer_rows arities pairs output) ≡ none) × (size ≡ n)
  unfolding written
  accepted n e = unless_gives (first (writer_rows arities pairs output)) size n e

  kept : (n place : ℕ) → written arities pairs output ≡ refused n place → later_output arities pairs output ≡ output
  unfolding written later_output
  kept n place e = rw (unless_refused (first (writer_rows arities pairs output)) size n place e)

  -- what was written can be read, and the rest stays
  module _ (n : ℕ) (e : written arities pairs output ≡ gives n) where
    later_is : later_output arities pairs output ≡ file_of arities pairs ++ drop n output
    later_is = let a = accepted n e in (taken a.0).1 ∙ ap (λ k. file_of arities pairs ++ drop k output) a.1

    long : length (file_of arities pairs) ≡ n
    long = length_file arities pairs ∙ (accepted n e).1

    front : take n (later_output arities pairs output) ≡ file_of arities pairs
    front = ap (take n) later_is ∙ take_at (file_of arities pairs) (drop n output) n long

    rest : drop n (later_output arities pairs output) ≡ drop n output
    rest = ap (drop n) later_is ∙ drop_at (file_of arities pairs) (drop n output) n long

    read : ReadWritten arities pairs
    read = read_back arities pairs output (accepted n e).0

  writes : Writes arities pairs output (write_call arities pairs output)
  writes =
      record {
        refusal_leaves = kept;
        returns = λ n e. inv (accepted n e).1;
        is_bytes = λ n e. rw (front n e) (read n e).bytes;
        is_table_lem-is = λ n e. rw (front n e) (read n e).is_table_lem-is;
        same_arities = λ n e. rw (front n e) (read n e).same_arities;
        same_pairs = λ n e. rw (front n e) (read n e).same_pairs;
        rest_stays = rest;
      }

-- ---- what was read from a table

module _ (table output : List ℕ) (bytes : Bytes table) (e : SoundFile table) (room : length table ≤ length output) where
  size_is : total (length (arities_in table)) (length (pairs_in table)) ≡ length table
  size_is = let q = passed table e in ap₂ total (length-arities_in table q) (length-pairs_in table) ∙ inv q.length_is

  not_refused : first (writer_rows (arities_in table) (pairs_in table) output) ≡ none
  unfolding writer_rows table_rows
  not_refused =
      let q = all_silent (table_rows table) e in
      silent_first (writer_rows (arities_in table) (pairs_in table) output)
      (counts q.1.0, (q.1.1.1.0, (q.1.1.1.1.0, (silent_output (total (length (arities_in table)) (length (pairs_in table))) output (omega (arith, size_is)), tt))))
    where
      counts : Silent (row2 (symbol_count_lem table) (pair_count_lem table)) → Silent (row2 (length (arities_in table)) (length (pairs_in table)))
      counts s = rw (length-arities_in table (passed table e), length-pairs_in table) s

  writes_again : WritesAgain table output (write_call (arities_in table) (pairs_in table) output)
  writes_again =
      let t = taken (arities_in table) (pairs_in table) output not_refused in
      record {
        taken = t.0 ∙ ap gives size_is;
        same_bytes = t.1 ∙ ap₂ (λ file n. file ++ drop n output) (write_back table bytes e) size_is;
      }

-- THEOREM: the writer and the reader undo one another
pub round_trip : RoundTrip write_call
round_trip = record { read_written = writes; written_read = writes_again }
