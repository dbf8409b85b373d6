-- Two answers from whose buffers the same can be drawn, be it one substitution, pack the pattern's variables alike: what it gives to a variable has as many
-- nodes as the variable has positions in either, and starts follow from counts.
use mathlib.Core.Path.{◌≡◌, refl, sym as inv, ap, ◌∙◌, fun_ext}
use mathlib.Core.Bool.{Bool, true, false}
use Prim.Native.Nat.{ℕ, ◌+◌, ◌*◌, ◌≤◌, ◌<◌}
use native.Mathlib.Decide.{dec_lt}
use native.Mathlib.Omega.{arith}
use lib.ListN.{get_or}
use Rattle.theory.specs.Tree.{Term, Pattern, stands}
use Rattle.theory.specs.Table.{Table}
use Rattle.meaning.specs.Limits.{variable_count, span_width}
use Rattle.meaning.specs.Packing.{firsts, start_in}
use Rattle.meaning.specs.Calls.{Matched}
use Rattle.meaning.specs.Buffers.{first_position_lem, position_count_lem}
use Rattle.meaning.specs.Matching.{standing, PackedInOrder}
use Rattle.demands.specs.Demand3.{DrawnBy}

module _ (T R : Table) (p : Pattern) (r s : Matched) (σ : ℕ → Term) (gr : DrawnBy T p r σ) (gs : DrawnBy R p s σ) (pr : PackedInOrder p r) (ps : PackedInOrder p s)
    (past : (i : ℕ) → span_width * variable_count ≤ i → get_or r.spans i 0 ≡ get_or s.spans i 0) where
  -- LAW
  pub counts_alike : (v : ℕ) → position_count_lem r.spans v ≡ position_count_lem s.spans v
  counts_alike v = go (dec_lt v variable_count) (stands v p) refl
    where
      go : Dec (v < variable_count) → (b : Bool) → stands v p ≡ b → position_count_lem r.spans v ≡ position_count_lem s.spans v
      go (no m) b e = past (span_width * v + 1) (omega arith)
      go (yes l) true e = inv (gr v e).as_many ∙ (gs v e).as_many
      go (yes l) false e = (pr.absent v l e).1 ∙ inv (ps.absent v l e).1

  -- LAW
  pub starts_alike : (v : ℕ) → first_position_lem r.spans v ≡ first_position_lem s.spans v
  starts_alike v = go (dec_lt v variable_count) (stands v p) refl
    where
      go : Dec (v < variable_count) → (b : Bool) → stands v p ≡ b → first_position_lem r.spans v ≡ first_position_lem s.spans v
      go (no m) b e = past (span_width * v) (omega arith)
      go (yes l) true e = pr.starts v e ∙ ap (λ count. start_in count v (firsts (standing p))) (fun_ext counts_alike) ∙ inv (ps.starts v e)
      go (yes l) false e = (pr.absent v l e).0 ∙ inv (ps.absent v l e).0
