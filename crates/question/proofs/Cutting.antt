-- Only the first 1,025 nodes of a list matter for how it is read: more are too many whatever they are.
use mathlib.Core.Path.{◌≡◌, ap}
use mathlib.Core.List.{List}
use mathlib.Core.Bool.{Bool}
use Prim.Native.Nat.{ℕ, ◌<◌}
use native.Mathlib.Decide.{dec_lt}
use native.Mathlib.Omega.{arith}
use lib.ListN.{length, take}
use lib.Seq.{length-take-le, take_all}
use borrow.Author.Tests.{lt-ltb}
use Rattle.theory.specs.Table.{Table}
use Rattle.theory.specs.Read.{faulty, reading}

-- LAW: for how it is read a list may be cut to 1,025 nodes
pub cut_reading : (T : Table) (vars : Bool) (xs : List ℕ) → reading T vars (take 1025 xs) ≡ reading T vars xs
cut_reading T vars xs = go (dec_lt 1024 (length xs))
  where
    go : Dec (1024 < length xs) → reading T vars (take 1025 xs) ≡ reading T vars xs
    go (yes l) = rw (lt-ltb 1024 (length xs) l, lt-ltb 1024 (length (take 1025 xs)) (omega (arith, length-take-le 1025 xs l)))
    go (no l) = ap (reading T vars) (take_all 1025 xs (omega arith))

-- LAW: a list that is too long has its fault at 1024
pub long_reading : (T : Table) (vars : Bool) (xs : List ℕ) → 1024 < length xs → reading T vars xs ≡ faulty 1024
long_reading T vars xs l = rw (lt-ltb 1024 (length xs) l)
