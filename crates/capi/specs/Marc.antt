-- The call on an exchange record: what it promises for everything that can be lent to it.
use Rattle.std.specs.Prelude.{◌≡◌, List, cond, ℕ, ltb}
use Rattle.meaning.specs.Refusals.{Refusal, refusal}
use Rattle.meaning.specs.Calls.{Answer, refused, gives, Yes}
use Rattle.marc.specs.Known.{known_in}
use Rattle.marc.specs.Heading.{headed, later_nodes}
use Rattle.capi.specs.Answers.{code_of}

-- the highest place that 48 bits tell
abbrev pub highest_place : ℕ
highest_place = 281474976710655

-- The place that a code of 64 bits tells: the highest one in place of any that is higher.
abbrev pub told_place : ℕ → ℕ
told_place place = cond (ltb highest_place place) highest_place place

-- A refusal's number in the low 16 bits, its place in the high 48.
abbrev pub wide_code_lem : Refusal → ℕ
wide_code_lem (refusal n place) = code_of (refusal n (told_place place))

-- The number that the call returns: 0 where nothing is refused.
abbrev pub wide_coded : Answer Yes → ℕ
wide_coded (refused n place) = wide_code_lem (refusal n place)
wide_coded (gives a) = 0

pub record ShxMarcHeading (bytes text ends numbers : List ℕ) (heading absent : ℕ) (nodes : List ℕ) (r : ℕ) (nodes' : List ℕ) : Type 0 where
  pub answers : r ≡ wide_coded (headed bytes (known_in text ends numbers) heading absent nodes)
  pub leaves : nodes' ≡ later_nodes bytes (known_in text ends numbers) heading absent nodes
