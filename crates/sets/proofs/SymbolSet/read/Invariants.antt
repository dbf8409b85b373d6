-- What each turn of the loop keeps.
use mathlib.Core.Path.{◌≡◌}
use mathlib.Core.List.{List}
use Prim.Native.Nat.{ℕ, ◌+◌, ◌<◌}
use lib.ListN.{length, get_or}
use Rattle.meaning.specs.Limits.{set_words_lem}
use Rattle.sets.proofs.SymbolSet.read.Given as goal

-- the first i words are copied
pub record Copied (list : List ℕ) (at : ℕ) (words : List ℕ) (i : ℕ) : Type 0 where
  pub long : length words ≡ set_words_lem
  pub same : (j : ℕ) → j < i → get_or words j 0 ≡ get_or list (at + j) 0

abbrev pub invariant-loop-j : goal.invariant-loop-j
invariant-loop-j l = Copied l.list l.at l.words l.j
