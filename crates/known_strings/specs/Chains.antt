-- Strings chained by their digests: from the last that has a digest to the one before it, and so on.
use Rattle.std.specs.Prelude.{◌≡◌, List, [], ◌∷◌, Bool, true, false, ℕ, ◌+◌, ◌-◌, ◌*◌, ◌%◌, ◌≤◌, ◌<◌, eqb, length, get_or}
use Rattle.theory.specs.Least.{last_below}
use Rattle.marc.specs.Known.{same}
use Rattle.known_strings.specs.Lent.{string_in, bad_in}

-- so many digests there are
abbrev pub digests : ℕ
digests = 16384

-- a string's digest, behind what is reckoned already
unfoldable pub digest_from : ℕ → List ℕ → ℕ
digest_from sum [] = sum
digest_from sum (b ∷ bs) = digest_from ((sum * 31 + b) % digests) bs

abbrev pub digest_of : List ℕ → ℕ
digest_of = digest_from 0

-- so many strings are a block
abbrev pub block_size : ℕ
block_size = 16384

module _ (text ends : List ℕ) (from : ℕ) where
  -- string k of those from entry `from` on has this digest
  abbrev pub has_digest : ℕ → ℕ → Bool
  has_digest d k = eqb (digest_of (string_in text ends (from + k))) d

  -- string k of those from entry `from` on is this string
  abbrev pub like : List ℕ → ℕ → Bool
  like string k = same (string_in text ends (from + k)) string

  -- each of the first n is linked to the last before it that has its digest
  abbrev pub LinkedTo : ℕ → List ℕ → Type 0
  LinkedTo n links = (k : ℕ) → k < n → get_or links k 0 ≡ last_below k (has_digest (digest_of (string_in text ends (from + k))))

  -- .. and each digest has its last string as the head of its chain
  pub record Chained (n : ℕ) (heads links : List ℕ) : Type 0 where
    pub heads_are : (d : ℕ) → d < digests → get_or heads d 0 ≡ last_below n (has_digest d)
    pub linked : LinkedTo n links

  -- the chain of a string's digest: its head is 1 and the last string on it, or 0 if there is none
  pub record ChainFrom (head : ℕ) (links string : List ℕ) : Type 0 where
    pub within : from + head ≤ length ends
    pub block : head ≤ block_size
    pub is : 0 < head → has_digest (digest_of string) (head - 1) ≡ true
    pub linked : LinkedTo head links

module _ (text ends numbers : List ℕ) (absent : ℕ) where
  -- no entry from `from` on and before `end` has the number of absent dates, or the string of an earlier one from `from` on and before `upto`
  pub record FineTo (from upto end : ℕ) : Type 0 where
    pub numbered : (j : ℕ) → from ≤ j → j < end → eqb (get_or numbers j 0) absent ≡ false
    pub new : (j i : ℕ) → j < end → from ≤ i → i < j → i < upto → same (string_in text ends i) (string_in text ends j) ≡ false

  -- entry r is the first from `from` on that is bad by its number or by a string of the block that begins there; or it is `end`, and none before that is
  pub record BadFrom (from end r : ℕ) : Type 0 where
    pub not_before : from ≤ r
    pub not_behind : r ≤ end
    pub fine : FineTo from (from + block_size) r
    pub bad : r < end → bad_in text ends numbers absent r ≡ true
