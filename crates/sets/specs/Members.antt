-- The symbols of a set as an iterator gives them, rising.
use Rattle.std.specs.Prelude.{◌≡◌, Option, MatchOption, true, ℕ, ◌+◌, ◌-◌, ◌≤◌, ◌<◌}
use Rattle.std.specs.Iterator.{Count, at_most}
use Rattle.meaning.specs.Buffers.{member}
use Rattle.sets.specs.Words.{NoneBetween}
use Rattle.sets.specs.declared.Members.{Members}

-- k is the least member that is not below `from`, and it is below `end`
pub record LeastFrom (s : Members) (k : ℕ) : Type 0 where
  pub not_below : s.from ≤ k
  pub below : k < s.end
  pub is : member s.words.now k ≡ true
  pub none : NoneBetween s.words.now s.from k

-- a call from s gave the least member that is left and goes on behind it, or none where none is left
abbrev pub GivesLeast : Members → Option ℕ → Members → Type 0
GivesLeast s r t =
    (t.words.now ≡ s.words.now) × (t.end ≡ s.end) × MatchOption r (NoneBetween s.words.now s.from s.end) (λ k. LeastFrom s k × (t.from ≡ k + 1))

abbrev pub at_most_left : Members → Count
at_most_left s = at_most (s.end - s.from)
