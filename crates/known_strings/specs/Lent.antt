-- The list as it is lent, by the text, the ends and the numbers alone.
use Rattle.std.specs.Prelude.{List, Bool, ◌||◌, ℕ, zero, suc, ◌-◌, eqb, length, get_or, take, drop}
use Rattle.theory.specs.Least.{some}
use Rattle.marc.specs.Known.{Known, same, known_in}
use Rattle.marc.specs.Order.{Rises}
use Rattle.known_strings.specs.declared.list.KnownStrings.{KnownStrings}

-- where string j begins: where the one before it ends
abbrev pub begin_of_lem : List ℕ → ℕ → ℕ
begin_of_lem ends zero = 0
begin_of_lem ends (suc j) = get_or ends j 0

-- the bytes from one place to another
abbrev pub part_in : List ℕ → ℕ → ℕ → List ℕ
part_in text start end = take (end - start) (drop start text)

unfoldable pub string_in : List ℕ → List ℕ → ℕ → List ℕ
string_in text ends j = part_in text (begin_of_lem ends j) (get_or ends j 0)

-- string i is this string
abbrev pub is_string : List ℕ → List ℕ → List ℕ → ℕ → Bool
is_string text ends string i = same (string_in text ends i) string

-- each of the first n strings stands before the next
abbrev pub RisesTo : List ℕ → List ℕ → ℕ → Type 0
RisesTo text ends = Rises (string_in text ends)

-- string j was listed before
abbrev pub listed_above : List ℕ → List ℕ → ℕ → Bool
listed_above text ends j = some j (λ i. same (string_in text ends i) (string_in text ends j))

abbrev pub bad_in : List ℕ → List ℕ → List ℕ → ℕ → ℕ → Bool
bad_in text ends numbers absent j = listed_above text ends j || eqb (get_or numbers j 0) absent

-- the entries of a lent list
abbrev pub listed : KnownStrings → List Known
listed k = known_in k.text.now k.ends.now k.numbers.now

-- each of its strings stands before the next
abbrev pub Rising : KnownStrings → Type 0
Rising k = RisesTo k.text.now k.ends.now (length (listed k))
