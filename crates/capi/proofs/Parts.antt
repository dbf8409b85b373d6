-- The part that a subterm's promise tells of lies in the list, so that it has as many nodes as are counted.
use mathlib.Core.Path.{◌≡◌, refl, sym, ap, subst, ◌∙◌}
use mathlib.Core.List.{List}
use mathlib.Core.Option.{Option, none, some as just}
use Prim.Native.Nat.{ℕ, ◌<◌}
use native.Mathlib.Omega.{arith}
use native.Mathlib.Decide.{dec_lt}
use lib.ListN.{length, take, drop}
use Rattle.meaning.specs.Refusals.{Refusal, first}
use Rattle.meaning.specs.Calls.{Part, part, subterm_rows, subterm}
use Rattle.meaning.specs.Parts.{SubtermIs}
use Rattle.meaning.proofs.Parts.{subterms}
use Rattle.headings.specs.Terms.{Nodes, IsPart, Subterm, accepted}
use Rattle.headings.proofs.Lists.{no_subterm}
use Rattle.capi.specs.Terms.{count_of}

-- the list has all nodes of the part
abbrev Whole : List ℕ → Part → Type 0
Whole list (part start count) = length (take count (drop start list)) ≡ count

module _ (table term : List ℕ) (i : ℕ) where
  abbrev at : Part
  at = subterm table term i

  of_none : at ≡ part 0 0 → Whole term at
  of_none e = subst (Whole term) (sym e) refl

  of_some : SubtermIs table term i at → Whole term at
  of_some s = subst (Whole term) (sym s.handed_back) (ap length s.holds_it)

  whole : Whole term at
  whole = go (first (subterm_rows table term)) refl (dec_lt i (length term))
    where
      go : (o : Option Refusal) → first (subterm_rows table term) ≡ o → Dec (i < length term) → Whole term at
      go (just r) e d = of_none (no_subterm table term (ap accepted e) i)
      go none e (yes l) = of_some (subterms.found table term i e l)
      go none e (no n) = of_none (subterms.outside_part table term i (omega arith))

counted : (list r : Nodes) (p : Part) → IsPart list r p → Whole list.now p → length r.now ≡ count_of p
counted list r (part start count) is w = ap length is.holds ∙ w

-- LAW: a part handed back has as many nodes as its promise counts
pub as_counted : (table : List ℕ) (term : Nodes) (i : ℕ) (r : Nodes) → Subterm table term i r → length r.now ≡ count_of (subterm table term.now i)
as_counted table term i r is = counted term r (subterm table term.now i) is (whole table term.now i)
