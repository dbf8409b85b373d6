-- What a comparison of two strings says of them.
use Rattle.std.specs.Prelude.{◌≡◌, List, true, ℕ, zero, suc, ◌+◌, ◌*◌, get_or}
use Rattle.std.specs.declared.cmp.Ordering.{Ordering}
use Rattle.std.specs.declared.cmp.Ordering.TheVariants.{Less, Equal, Greater}
use Rattle.marc.specs.Order.{before}

-- the number that n bytes write, the first the highest
abbrev pub written_at : List ℕ → ℕ → ℕ → ℕ
written_at bytes at zero = 0
written_at bytes at (suc n) = written_at bytes at n * 256 + get_or bytes (at + n) 0

abbrev pub ComparedAs : List ℕ → List ℕ → Ordering → Type 0
ComparedAs one two Less = before one two ≡ true
ComparedAs one two Equal = one ≡ two
ComparedAs one two Greater = before two one ≡ true
