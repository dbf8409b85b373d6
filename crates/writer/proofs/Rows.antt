-- The writer's rows, one after the other: which holds first, by the tests on the two counts, the arities, the pairs passed and the room; and what
-- an answer tells of them, and of the output that the front is written to.
use mathlib.Core.Path.{◌≡◌, sym, ap}
use mathlib.Core.List.{List, ◌++◌}
use mathlib.Core.Bool.{◌||◌}
use mathlib.Core.Option.{Option, none, some as just}
use Prim.Native.Nat.{ℕ, ◌≤◌, ◌<◌}
use native.Mathlib.Omega.{arith}
use native.Mathlib.Decide.{dec_lt}
use lib.Dec.{ltb}
use lib.ListN.{length, get_or, get_or-eq_default}
use borrow.Author.Tests.{ltb-true, ltb-false, lt-ltb, le-ltb}
use Rattle.theory.proofs.Lemmas.{least_just, both_false}
use Rattle.meaning.specs.Limits.{most_symbols, most_pairs, most_arguments}
use Rattle.meaning.specs.File.{total, header}
use Rattle.meaning.specs.Refusals.{Refusal, refusal, Row, row, row_place, first, outside, row2, row3}
use Rattle.meaning.specs.Calls.{Answer, refused, gives, unless}
use Rattle.meaning.proofs.First.{unless_refused, unless_gives, Silent, all_silent}
use Rattle.meaning.proofs.Sound.{at0-none, inside_of}
use Rattle.meaning.specs.Over.{over}
use Rattle.writer.specs.Counted.{counted_rows, counted_answer, begun_output}
use Rattle.meaning.specs.Calls.{refused_as}

-- the counts are within their limits
pub record Counted (symbols p : ℕ) : Type 0 where
  pub some : 1 ≤ symbols
  pub few : symbols ≤ most_symbols
  pub few_pairs_lem : p ≤ most_pairs

pub counts_within : (symbols p : ℕ) → Silent (row2 symbols p) → Counted symbols p
unfolding row2
counts_within symbols p e =
    let a = outside 1 most_symbols symbols in
    let b = outside 0 most_pairs p in
    let q = both_false a b (at0-none (a || b) e) in
    let i = inside_of 1 most_symbols symbols q.0 in
    record { some = i.0; few = i.1; few_pairs_lem = (inside_of 0 most_pairs p q.1).1 }

-- the same of the row itself
pub row_counted : (symbols p : ℕ) → row2 symbols p ≡ row 2 none → Counted symbols p
row_counted symbols p e = counts_within symbols p (ap row_place e)

-- ---- what an answer tells of the rows it was made by

pub answered_none : (o : Option Refusal) (a n : ℕ) → gives n ≡ unless o a → o ≡ none
answered_none o a n e = (unless_gives o a n (sym e)).0

pub answered_some : (o : Option Refusal) (a : ℕ) (r : Refusal) → refused_as r ≡ unless o a → o ≡ just r
answered_some o a (refusal n place) e = unless_refused o a n place (sym e)

-- ---- the answer, by the row that holds first

module _ (arities : List ℕ) (p sound room : ℕ) where
  abbrev rows : List Row
  rows = counted_rows arities p sound room

  abbrev answer : Answer ℕ
  answer = counted_answer arities p sound room

  pub by_counts : row2 (length arities) p ≡ row 2 (just 0) → refused 2 0 ≡ answer
  unfolding counted_answer counted_rows
  by_counts e = rw e

  module _ (counts : row2 (length arities) p ≡ row 2 none) where
    pub by_arity : (symbol : ℕ) → row3 arities ≡ row 3 (just symbol) → refused 3 symbol ≡ answer
    unfolding counted_answer counted_rows
    by_arity symbol e = rw (counts, e)

    module _ (low : row3 arities ≡ row 3 none) where
      pub by_pair : sound < p → refused 4 sound ≡ answer
      unfolding counted_answer counted_rows
      by_pair l = rw (counts, low, lt-ltb sound p l)

      pub by_room : p ≤ sound → room < total (length arities) p → refused 8 0 ≡ answer
      unfolding counted_answer counted_rows
      by_room l m = rw (counts, low, le-ltb sound p l, lt-ltb room (total (length arities) p) m)

      pub by_none : p ≤ sound → total (length arities) p ≤ room → gives (total (length arities) p) ≡ answer
      unfolding counted_answer counted_rows
      by_none l m = rw (counts, low, le-ltb sound p l, le-ltb room (total (length arities) p) m)

  -- a file that is written
  pub given_counted : (n : ℕ) → gives n ≡ answer → Counted (length arities) p
  unfolding counted_answer counted_rows
  given_counted n e = counts_within (length arities) p (all_silent rows (answered_none (first rows) (total (length arities) p) n e)).0

  pub given_room : (n : ℕ) → gives n ≡ answer → total (length arities) p ≤ room
  unfolding counted_answer counted_rows
  given_room n e =
      let t = total (length arities) p in
      ltb-false room t (at0-none (ltb room t) (all_silent rows (answered_none (first rows) t n e)).1.1.1.0)

-- the symbol that row 3 gives is one of the table's: elsewhere there is no arity
pub arity_within : (arities : List ℕ) (symbol : ℕ) → row3 arities ≡ row 3 (just symbol) → symbol < length arities
unfolding row3
arity_within arities symbol e = go (dec_lt symbol (length arities))
  where
    high : most_arguments < get_or arities symbol 0
    high = ltb-true most_arguments (get_or arities symbol 0) (least_just (length arities) (λ a. ltb most_arguments (get_or arities a 0)) symbol (ap row_place e)).passes

    go : Dec (symbol < length arities) → symbol < length arities
    go (yes l) = l
    go (no l) = let z : get_or arities symbol 0 ≡ 0 = get_or-eq_default arities 0 (omega arith) in absurd (omega (arith, high))

-- ---- what the output holds once its front is written

module _ (arities : List ℕ) (p sound : ℕ) (output : List ℕ) where
  pub begun_given : (n : ℕ) → gives n ≡ counted_answer arities p sound (length output) → over output 0 (header (length arities) p ++ arities) ≡ begun_output arities p sound output
  unfolding counted_answer begun_output
  begun_given n e = rw (answered_none (first (counted_rows arities p sound (length output))) (total (length arities) p) n e)

  pub begun_refused : (r : Refusal) → refused_as r ≡ counted_answer arities p sound (length output) → output ≡ begun_output arities p sound output
  unfolding counted_answer begun_output
  begun_refused r e = rw (answered_some (first (counted_rows arities p sound (length output))) (total (length arities) p) r e)

-- what `verdict` answers by, and what `begin` knows of a file that is written
pub ruleset answered_by_rows = (by_counts, by_arity, by_pair, by_room, by_none, arity_within, row_counted)

pub ruleset given_bounds = (given_counted, given_room)
