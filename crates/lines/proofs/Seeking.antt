-- The next variable that has positions, as a loop finds it: it is the first one, or else the next after it.
use mathlib.Core.Path.{◌≡◌}
use mathlib.Core.List.{List}
use Prim.Native.Nat.{ℕ, suc, ◌+◌, ◌-◌, ◌≤◌, ◌<◌}
use native.Mathlib.Omega.{arith}
use borrow.Author.Tests.{eq-eqb, ne_eqb}
use Rattle.std.specs.Prelude.{Some, None}
use Rattle.meaning.specs.Limits.{variable_count}
use Rattle.meaning.specs.Buffers.{position_count_lem}
use Rattle.lines.specs.declared.line.Cursor.TheVariants.{Variable}
use Rattle.lines.specs.Lines.{seek_in, seek_from}

module _ (spans : List ℕ) (v : ℕ) where
  pub seek_here : v < variable_count → 0 < position_count_lem spans v → seek_from spans v ≡ Some (Variable v)
  unfolding seek_in
  seek_here l m =
      let e : variable_count - v ≡ suc (variable_count - (v + 1)) = omega arith in
      rw (e, ne_eqb (position_count_lem spans v) 0 (λ z. omega arith))

  pub seek_past : v < variable_count → position_count_lem spans v ≤ 0 → seek_from spans v ≡ seek_from spans (v + 1)
  unfolding seek_in
  seek_past l m =
      let e : variable_count - v ≡ suc (variable_count - (v + 1)) = omega arith in
      let f : suc v ≡ v + 1 = omega arith in
      rw (e, eq-eqb (position_count_lem spans v) 0 (omega arith), f)

  pub seek_end : variable_count ≤ v → seek_from spans v ≡ None
  unfolding seek_in
  seek_end l = let e : variable_count - v ≡ 0 = omega arith in rw e
