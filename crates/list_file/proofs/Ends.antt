-- The bytes one by one: a line ends with the first 0A.
use mathlib.Core.Path.{◌≡◌, sym, ap, ◌∙◌}
use mathlib.Core.List.{List, [], ◌∷◌}
use Prim.Native.Nat.{ℕ, suc, ◌+◌, ◌<◌}
use native.Mathlib.Numerals.{add-one}
use native.Mathlib.Omega.{arith}
use lib.ListN.{length, get_or, drop}
use lib.Seq.{drop-cons}
use Rattle.theory.specs.Least.{All}

abbrev pub Inline : ℕ → Type 0
Inline b = b ≡ 10 → ⊥

-- LAW: what is left begins with the byte there
pub next_byte : (bytes : List ℕ) (i : ℕ) → i < length bytes → drop i bytes ≡ get_or bytes i 0 ∷ drop (i + 1) bytes
next_byte bytes i inside = drop-cons bytes i 0 inside ∙ ap (λ j. get_or bytes i 0 ∷ drop j bytes) (sym (add-one i))

-- LAW: no byte is a 0A where none is at any place
pub all_inline : (bytes : List ℕ) → ((k : ℕ) → k < length bytes → Inline (get_or bytes k 0)) → All Inline bytes
all_inline [] h = tt
all_inline (b ∷ bs) h = (h 0 (omega arith), all_inline bs (λ k l. h (suc k) (omega arith)))
