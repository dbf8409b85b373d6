-- What is read where a number has to stand.
use Rattle.std.specs.Prelude.{◌≡◌, List, Option, Some, None, true, false, ℕ, ◌≤◌, length}
use Rattle.marc.specs.Frame.{digits_at, decimal_at}

-- Some byte is no digit; or all are, and this is the number that they write.
abbrev pub NumberBy : List ℕ → Option ℕ → Type 0
NumberBy bytes None = digits_at bytes 0 (length bytes) ≡ false
NumberBy bytes (Some n) = (digits_at bytes 0 (length bytes) ≡ true) × (n ≡ decimal_at bytes 0 (length bytes)) × (n ≤ 99999)
