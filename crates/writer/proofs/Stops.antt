-- Where pairs that are given as numbers stop being sound: at the first that may not be listed, or behind the last whole one, as a pair that is not whole has no
-- degree.
use mathlib.Core.Path.{◌≡◌, refl, ap, ◌∙◌}
use mathlib.Core.List.{List}
use mathlib.Core.Bool.{Bool, true}
use mathlib.Core.Option.{none}
use Prim.Native.Nat.{ℕ, ◌/◌, ◌%◌, ◌<◌}
use native.Mathlib.Omega.{arith}
use native.Mathlib.Decide.{ℕ_discrete}
use borrow.Author.Tests.{lt-ltb, le-ltb}
use lib.ListN.{length}
use Rattle.std.specs.Prelude.{Option, Some, None, unwrap_or}
use Rattle.theory.specs.Least.{least_below}
use Rattle.theory.proofs.Lemmas.{or_left, least_just}
use Rattle.meaning.specs.File.{pairs_of}
use Rattle.meaning.specs.Refusals.{row, bad_pair_lem, row4}
use Rattle.meaning.proofs.First.{none_below, least_at}
use Rattle.table.specs.Places.{place_in}
use Rattle.table.proofs.Rows.{least_inside}
use Rattle.writer.specs.Counted.{stop}
use Rattle.writer.proofs.Numbers.{length-pairs_of, cut_short}

module _ (arities ns : List ℕ) where
  abbrev pairs_end : ℕ
  pairs_end = length (pairs_of ns)

  abbrev bad : ℕ → Bool
  bad = bad_pair_lem arities (pairs_of ns)

  -- they stop at a pair that is not good, where all before it are
  stops_at : (k : ℕ) → least_below k bad ≡ none → bad k ≡ true → k < pairs_end → row4 arities (pairs_of ns) ≡ row 4 (stop k pairs_end)
  unfolding row4
  stops_at k e b l = rw (lt-ltb k pairs_end l) (ap (row 4) (least_at bad k pairs_end e b l))

  -- where all whole pairs are good, they stop behind the last of them
  stops_behind : (k : ℕ) → least_below k bad ≡ none → k ≡ length ns / 3 → row4 arities (pairs_of ns) ≡ row 4 (stop k pairs_end)
  unfolding row4
  stops_behind k e w = go (ℕ_discrete (length ns % 3) 0)
    where
      go : Dec (length ns % 3 ≡ 0) → row4 arities (pairs_of ns) ≡ row 4 (stop k pairs_end)
      go (yes z) =
          let n : pairs_end ≡ k = omega (arith, length-pairs_of ns) in
          rw (le-ltb k pairs_end (omega arith)) (ap (row 4) (ap (λ m. least_below m bad) n ∙ e))
      go (no z) = stops_at k e (or_left _ _ (cut_short arities ns k (omega arith))) (omega (arith, length-pairs_of ns))

  -- LAW: the first whole pair that is bad, or the number of whole pairs, is where they stop
  pub stops : (found : Option ℕ) → least_below (length ns / 3) bad ≡ place_in found → row4 arities (pairs_of ns) ≡ row 4 (stop (unwrap_or found (length ns / 3)) pairs_end)
  stops (Some k) e =
      let at = least_just (length ns / 3) bad k e in
      stops_at k (none_below bad k at.least) at.passes (omega (arith, least_inside bad (length ns / 3) k e, length-pairs_of ns))
  stops None e = stops_behind (length ns / 3) e refl
