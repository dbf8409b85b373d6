-- The list of known strings with their symbol numbers, and how it is lent: one list of bytes that holds all strings one after the other, for each
-- string the place where it ends, and for each its number. A string begins where the one before it ends. Where the two lists have unlike lengths
-- the shorter one counts; what would lie behind the last byte is not there.
use Rattle.std.specs.Prelude.{List, [], ◌∷◌, Bool, true, false, ◌&&◌, ◌||◌, cond, ℕ, ◌-◌, eqb, length, get_or, take, drop}
use Rattle.std.proofs.Math.Option.{Option, none, some as just}
use Rattle.theory.specs.Least.{some, least_below}
use Rattle.meaning.specs.Refusals.{Row, row}

-- a string and its number
pub data Known : Type 0 where
  known : List ℕ → ℕ → Known

abbrev pub string_of : Known → List ℕ
string_of (known string number) = string

abbrev pub number_of : Known → ℕ
number_of (known string number) = number

-- entry j of a list
abbrev pub entry_of : List Known → ℕ → Known
entry_of ks j = get_or ks j (known [] 0)

-- the list that is lent so, from where the first string begins
abbrev pub known_from : List ℕ → ℕ → List ℕ → List ℕ → List Known
known_from text start [] numbers = []
known_from text start (end ∷ ends) [] = []
known_from text start (end ∷ ends) (n ∷ numbers) = known (take (end - start) (drop start text)) n ∷ known_from text end ends numbers

unfoldable pub known_in : List ℕ → List ℕ → List ℕ → List Known
known_in text ends numbers = known_from text 0 ends numbers

-- the same bytes
abbrev pub same : List ℕ → List ℕ → Bool
same [] [] = true
same [] (b ∷ bs) = false
same (a ∷ xs) [] = false
same (a ∷ xs) (b ∷ bs) = eqb a b && same xs bs

-- The number of a string, if it is listed.
unfoldable pub number_in : List Known → List ℕ → Option ℕ
number_in [] string = none
number_in (known s n ∷ ks) string = cond (same s string) (just n) (number_in ks string)

-- 19, at the first entry whose string was listed before, or whose number is that of absent dates.
abbrev pub listed_before : List Known → ℕ → Bool
listed_before ks j = some j (λ i. same (string_of (entry_of ks i)) (string_of (entry_of ks j)))

abbrev pub bad_entry_lem : List Known → ℕ → ℕ → Bool
bad_entry_lem ks absent j = listed_before ks j || eqb (number_of (entry_of ks j)) absent

unfoldable pub row19 : List Known → ℕ → Row
row19 ks absent = row 19 (least_below (length ks) (bad_entry_lem ks absent))
