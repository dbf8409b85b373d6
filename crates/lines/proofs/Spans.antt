-- Zeros give every variable a span that has no position, so they ask for no sets.
use mathlib.Core.Path.{◌≡◌}
use mathlib.Core.List.{List}
use Prim.Native.Nat.{ℕ, ◌+◌, ◌*◌, ◌≤◌}
use native.Mathlib.Omega.{arith}
use lib.ListN.{length-replicate}
use Rattle.meaning.specs.Limits.{variable_count, span_width}
use Rattle.meaning.specs.Calls.{zeros}
use Rattle.meaning.specs.Buffers.{first_position_lem, position_count_lem}
use Rattle.meaning.proofs.Bits.{get_or_zeros}
use Rattle.lines.specs.Spans.{Spanned}

-- where a variable's positions end
abbrev pub ending : List ℕ → ℕ → ℕ
ending spans v = first_position_lem spans v + position_count_lem spans v

pub zero_ending : (n v : ℕ) → ending (zeros n) v ≡ 0
zero_ending n v = omega (arith, get_or_zeros n (span_width * v), get_or_zeros n (span_width * v + 1))

-- LAW: zeros span nothing
pub zeros_spanned : (n : ℕ) (sets : List ℕ) → span_width * variable_count ≤ n → Spanned (zeros n) sets
zeros_spanned n sets l = record { spans_there = omega (arith, length-replicate {A = ℕ} n 0); sets_there = λ v m. omega (arith, zero_ending n v) }
