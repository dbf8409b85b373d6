-- Where terms stand in a list: by the index at which each begins and how many nodes it has.
use Rattle.std.specs.Prelude.{◌≡◌, List, ℕ, ◌+◌, ◌*◌, ◌≤◌, ◌<◌, length, get_or, set, take, drop}
use Rattle.theory.specs.Tree.{Term, node, ∅, enc}
use Rattle.theory.specs.Faces.{Face, meets, binds}

-- The term stands in the list: its nodes are `size` of them from index `start` on.
pub record StandsAt (list : List ℕ) (start size : ℕ) (t : Term) : Type 0 where
  pub nodes : size ≡ length (enc t)
  pub inside : start + size ≤ length list
  pub is : take size (drop start list) ≡ enc t

-- A list of notes has two numbers for each: where a term begins, and how many nodes it has.
abbrev pub start_of : List ℕ → ℕ → ℕ
start_of notes o = get_or notes (2 * o) 0

abbrev pub size_of : List ℕ → ℕ → ℕ
size_of notes o = get_or notes (2 * o + 1) 0

-- The list with its note o written anew.
abbrev pub put_note_lem : List ℕ → ℕ → ℕ → ℕ → List ℕ
put_note_lem notes o start size = set (set notes (2 * o) start) (2 * o + 1) size

-- These n terms stand in the list, each where its note says.
pub record Gathered (list notes : List ℕ) (n : ℕ) (ts : List Term) : Type 0 where
  pub count : length ts ≡ n
  pub each : (o : ℕ) → o < n → StandsAt list (start_of notes o) (size_of notes o) (get_or ts o (node 0 ∅))

-- Every variable's node among these faces has a note, by its index, of where the subterm that faces it stands.
abbrev pub Note : List ℕ → ℕ → ℕ → Face → Type 0
Note list start size (meets f g) = Unit {0}
Note list start size (binds v t) = StandsAt list start size t

pub record Noted (list notes : List ℕ) (fs : List Face) : Type 0 where
  pub note : (k : ℕ) → k < length fs → Note list (start_of notes k) (size_of notes k) (get_or fs k (meets 0 0))
