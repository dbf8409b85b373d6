-- Row 3 is what `high_arity` finds and row 4 what `bad_pair` finds; a place inside a list of the file is below 65536, as the counts are.
use mathlib.Core.Path.{◌≡◌, sym, ap, ap₂, ◌∙◌}
use mathlib.Core.List.{List, [], ◌∷◌}
use Prim.Native.Nat.{ℕ, ◌+◌, ◌-◌}
use native.Mathlib.Omega.{arith}
use lib.ListN.{take, drop}
use Rattle.theory.specs.Least.{least_below}
use Rattle.meaning.specs.File.{symbol_count_lem, pair_count_lem, arities_in, pairs_from, pairs_in}
use Rattle.meaning.specs.Refusals.{row, row3, row4, first, bad_pair_lem}
use Rattle.meaning.proofs.Sound.{length-pairs_in}
use Rattle.table.specs.Places.{place_in}
use Rattle.std.specs.Prelude.{Option, Some, None}
use Rattle.meaning.proofs.Sound.{length_arities}
use Rattle.table.proofs.Pairs.{arities_part, number_small}
use Rattle.table.proofs.Rows.{row3_inside, row4_inside}
use Rattle.sound.proofs.check_lists.Goals as goal

-- row 3 once the arities are looked at, row 4 once the pairs are, where that has found this
module _ (file : List ℕ) (symbols : ℕ) (counted : symbols ≡ symbol_count_lem file) where
  arities_say : (r place : Option ℕ) → row3 (take (10 + symbols - 10) (drop 10 file)) ≡ row 3 (place_in r) → r ≡ place → row3 (arities_in file) ≡ row 3 (place_in place)
  arities_say r place e is = ap row3 (sym (arities_part file symbols counted)) ∙ e ∙ ap (λ r. row 3 (place_in r)) is

module _ (file : List ℕ) (symbols pairs : ℕ) (counted : symbols ≡ symbol_count_lem file) (paired : pairs ≡ pair_count_lem file) where
  listed_are : pairs_from file (10 + symbols) pairs ≡ pairs_in file
  unfolding pairs_in
  listed_are = ap₂ (λ s n. pairs_from file (10 + s) n) counted paired

  pairs_say : (r place : Option ℕ) → least_below pairs (bad_pair_lem (take (10 + symbols - 10) (drop 10 file)) (pairs_from file (10 + symbols) pairs)) ≡ place_in r → r ≡ place
      → row4 (arities_in file) (pairs_in file) ≡ row 4 (place_in place)
  unfolding row4
  pairs_say r place e is =
      rw (length-pairs_in file, ← paired, ← arities_part file symbols counted, ← listed_are) (ap (row 4) (e ∙ ap place_in is))

pub overflow_cast-result : goal.overflow_cast-result
overflow_cast-result c =
    let f = c.args.file.now in
    let p = c.requires in
    omega (arith, row3_inside (arities_in f) c.in-Some.symbol (arities_say c.args.file.now c.args.symbols c.requires.0 _ (Some _) c.high_arity.ensures c.in-Some.is), length_arities f (omega arith), number_small c.args.file.now (λ j. (c.type_inv.file j).fits) 0)

pub overflow_cast-result-in-Some-bad_pair : goal.overflow_cast-result-in-Some-bad_pair
overflow_cast-result-in-Some-bad_pair c =
    let f = c.args.file.now in
    omega (arith, row4_inside (arities_in f) (pairs_in f) c.in-Some-bad_pair.pair (pairs_say c.args.file.now c.args.symbols c.args.pairs c.requires.0 c.requires.1 _ (Some _) c.bad_pair.ensures c.in-Some-bad_pair.is), length-pairs_in f, number_small c.args.file.now (λ j. (c.type_inv.file j).fits) 2)

pub returns-in-Some : goal.returns-in-Some
returns-in-Some c =
    let f = c.args.file.now in
    sym (ap (λ r. first (r ∷ row4 (arities_in f) (pairs_in f) ∷ [])) (arities_say c.args.file.now c.args.symbols c.requires.0 _ (Some _) c.high_arity.ensures c.in-Some.is))

pub returns-in-Some-bad_pair : goal.returns-in-Some-bad_pair
returns-in-Some-bad_pair c = rw (arities_say c.args.file.now c.args.symbols c.requires.0 _ None c.high_arity.ensures c.in_default.is, pairs_say c.args.file.now c.args.symbols c.args.pairs c.requires.0 c.requires.1 _ (Some _) c.bad_pair.ensures c.in-Some-bad_pair.is)

pub returns : goal.returns
returns c = rw (arities_say c.args.file.now c.args.symbols c.requires.0 _ None c.high_arity.ensures c.in_default.is, pairs_say c.args.file.now c.args.symbols c.args.pairs c.requires.0 c.requires.1 _ None c.bad_pair.ensures c.in_default-bad_pair.is)
