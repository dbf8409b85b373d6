-- How an answer goes out to C: as one number, and as what it leaves in a lent number.
use Rattle.std.specs.Prelude.{ℕ, ◌+◌, ◌*◌}
use Rattle.meaning.specs.Refusals.{Refusal, refusal}
use Rattle.meaning.specs.Calls.{Answer, refused, gives}

-- A refusal's number in the low 16 bits, its place in the high 16.
abbrev pub code_of : Refusal → ℕ
code_of (refusal n place) = n + 65536 * place

module _ {A : Type 0} where
  -- The number that a call returns: 0 where nothing is refused.
  abbrev pub coded : Answer A → ℕ
  coded (refused n place) = code_of (refusal n place)
  coded (gives a) = 0

  -- What a lent number is later: what `field` takes from the answer; or what it was, where there is none.
  abbrev pub later : (A → ℕ) → Answer A → ℕ → ℕ
  later field (refused n place) lent = lent
  later field (gives a) lent = field a

-- The same where the answer is a number itself.
abbrev pub later_number : Answer ℕ → ℕ → ℕ
later_number = later (λ n. n)
