-- After j turns the first j words are those of the list.
use borrow.Author.Rules.{rules}
use mathlib.Core.Path.{◌≡◌, ◌∙◌}
use mathlib.Core.List.{List}
use Prim.Native.Nat.{ℕ, ◌+◌, ◌<◌}
use native.Mathlib.Nat.{not-suc-le-zero}
use native.Mathlib.Decide.{dec_lt}
use native.Mathlib.Omega.{arith}
use lib.ListN.{get_or, set, length-set}
use lib.Seq.{get_or-set_same, get_or-set_other}
use Rattle.meaning.specs.Limits.{set_words_lem}
use Rattle.sets.proofs.SymbolSet.read.Goals as goal
use Rattle.sets.proofs.SymbolSet.read.Invariants.{Copied}

copied_more : (list : List ℕ) (at : ℕ) (words : List ℕ) (i : ℕ) → i < set_words_lem → Copied list at words i → Copied list at (set words i (get_or list (at + i) 0)) (i + 1)
copied_more list at words i l c = record { long = length-set words i (get_or list (at + i) 0) ∙ c.long; same = λ j m. go j m (dec_lt j i) }
  where
    go : (j : ℕ) → j < i + 1 → Dec (j < i) → get_or (set words i (get_or list (at + i) 0)) j 0 ≡ get_or list (at + j) 0
    go j m (yes b) = get_or-set_other words i j (get_or list (at + i) 0) 0 (λ q. omega arith) ∙ c.same j b
    go j m (no b) =
        let q : j ≡ i = omega arith in
        rw q (get_or-set_same words i (get_or list (at + i) 0) 0 (omega (arith, c.long)))

pub loop-j-init : goal.loop-j-init
loop-j-init c = record { long = search rules; same = λ j l. absurd (not-suc-le-zero l) }

pub loop-j-preserved : goal.loop-j-preserved
loop-j-preserved c = copied_more _ _ _ _ (omega arith) c.loop-j.invariant

pub returns : goal.returns
returns c w l = c.loop-j.invariant.same w (omega arith)
