-- Where a subfield opens.
use Rattle.std.specs.Prelude.{◌≡◌, List, ℕ, ◌+◌, get_or}
use Rattle.marc.specs.Subfields.{subfield_mark}

-- A mark stands at this byte, and the code behind it.
abbrev pub Opens : ℕ → List ℕ → ℕ → Type 0
Opens code bytes k = (get_or bytes k 0 ≡ subfield_mark) × (get_or bytes (k + 1) 0 ≡ code)
