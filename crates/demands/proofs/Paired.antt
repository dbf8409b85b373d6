-- Headings by what the program itself says: the degree of two trees is the least over the positions of their lists, which a call for two symbols
-- gives; and where the degrees of both candidates are given, nothing is refused, so the nearer is chosen by them.
use mathlib.Core.Path.{◌≡◌, refl, sym as inv, ap, ap₂, ◌∙◌}
use mathlib.Core.List.{List, [], ◌∷◌}
use mathlib.Core.Bool.{false, cond}
use mathlib.Core.Option.{none}
use Prim.Native.Nat.{ℕ, zero, suc, ◌≤◌, ◌<◌, min}
use native.Mathlib.Nat.{not-suc-le-zero}
use native.Mathlib.Decide.{dec_lt}
use native.Mathlib.Omega.{arith}
use lib.Dec.{ltb}
use lib.ListN.{length, get_or}
use Rattle.theory.specs.Tree.{Term, node, enc}
use Rattle.theory.specs.Table.{degree}
use Rattle.theory.proofs.Flat.{flat, degree_flat}
use Rattle.theory.proofs.Draw.{over-at}
use Rattle.meaning.specs.File.{symbol_count_lem, table_in}
use Rattle.meaning.specs.Refusals.{first, row6, row7, table_rows, SoundFile}
use Rattle.meaning.specs.Calls.{gives, symbol_degree_lem, degree_rows, heading_degree, the_first, the_second_lem, nearer_rows, nearer}
use Rattle.meaning.specs.Demands.{WritesTerm, Demand2-degree}
use Rattle.meaning.proofs.First.{Silent, all_silent, silent_first, append-none, first-append, unless_gives}
use Rattle.meaning.proofs.Sound.{passed, length-arities_in, sound}
use Rattle.meaning.proofs.Degrees.{gives_degree}
use Rattle.meaning.proofs.Trees.{demand2_degree}
use Rattle.meaning.proofs.Drawn.{get_d_any}
use Rattle.demands.specs.Further.{LowestPaired}

-- ---- the least over the positions of two lists

module _ (d : ℕ → ℕ → ℕ) where
  flat_longer : (xs ys : List ℕ) → (length xs ≡ length ys → ⊥) → flat d xs ys ≡ 0
  flat_longer [] [] n = absurd (n refl)
  flat_longer [] (y ∷ ys) n = refl
  flat_longer (x ∷ xs) [] n = refl
  flat_longer (x ∷ xs) (y ∷ ys) n = omega (arith, flat_longer xs ys (λ e. n (ap suc e)))

  flat_bounds : (xs ys : List ℕ) → length xs ≡ length ys → (k : ℕ) → k < length xs → flat d xs ys ≤ d (get_or xs k 0) (get_or ys k 0)
  flat_bounds [] ys e k l = absurd (not-suc-le-zero l)
  flat_bounds (x ∷ xs) [] e k l = absurd (omega arith)
  flat_bounds (x ∷ xs) (y ∷ ys) e zero l = omega arith
  flat_bounds (x ∷ xs) (y ∷ ys) e (suc k) l = omega (arith, flat_bounds xs ys (omega arith) k (omega arith))

  -- some position has it
  abbrev Reached : List ℕ → List ℕ → ℕ → Type 0
  Reached xs ys n = (k : ℕ) × (k < length xs) × (d (get_or xs k 0) (get_or ys k 0) ≡ n)

  flat_reached : ((x y : ℕ) → d x y ≤ 1000) → (xs ys : List ℕ) → length xs ≡ length ys → 0 < length xs → Reached xs ys (flat d xs ys)
  flat_reached top [] ys e l = absurd (not-suc-le-zero l)
  flat_reached top (x ∷ xs) [] e l = absurd (omega arith)
  flat_reached top (x ∷ []) (y ∷ []) e l = (0, omega arith, omega (arith, top x y))
  flat_reached top (x ∷ []) (y ∷ z ∷ ys) e l = absurd (omega arith)
  flat_reached top (x ∷ w ∷ xs) (y ∷ ys) e l = go (dec_lt (d x y) (flat d (w ∷ xs) ys)) (flat_reached top (w ∷ xs) ys (omega arith) (omega arith))
    where
      go : Dec (d x y < flat d (w ∷ xs) ys) → Reached (w ∷ xs) ys (flat d (w ∷ xs) ys) → Reached (x ∷ w ∷ xs) (y ∷ ys) (min (d x y) (flat d (w ∷ xs) ys))
      go (yes m) rest = (0, omega arith, omega arith)
      go (no m) rest = (suc rest.0, omega (arith, rest.1), rest.2 ∙ omega arith)

-- ---- the degree of two headings

some_node : (t : Term) → 0 < length (enc t)
some_node (node f ts) = omega arith

same_number : (a b : ℕ) → gives a ≡ gives b → a ≡ b
same_number a b e = cc

module _ (table one two : List ℕ) (d : ℕ) (e : heading_degree table one two ≡ gives d) where
  pub rows : first (degree_rows table one two) ≡ none
  unfolding heading_degree
  rows = (unless_gives (first (degree_rows table one two)) _ d e).0

  pub parts : SoundFile table × (Silent (row6 (table_in table) false one) × Silent (row7 (table_in table) two))
  unfolding degree_rows
  parts =
      let rest = row6 (table_in table) false one ∷ row7 (table_in table) two ∷ [] in
      let r = append-none (table_rows table) rest rows in
      let s = all_silent rest r.1 in
      (r.0, (s.0, s.1.0))

  q : Demand2-degree table one two (heading_degree table one two)
  q = demand2_degree table one two rows

  -- the least over the positions of the two lists
  flat_is : d ≡ flat (table_in table).deg one two
  flat_is =
      let T = table_in table in
      same_number d (degree T q.t q.u) (inv e ∙ q.published)
      ∙ degree_flat T (sound table parts.0).lawful q.t q.u q.writes_one.holds.over q.writes_two.holds.over
      ∙ ap₂ (λ a b. flat T.deg a b) (inv q.writes_one.holds.is) (inv q.writes_two.holds.is)

  -- what stands in a heading is a symbol of the table
  in_table : (list : List ℕ) (t : Term) → WritesTerm (table_in table) list t → (k : ℕ) → k < length list → get_or list k 0 < symbol_count_lem table
  unfolding table_in
  in_table list t w k l =
      let m : k < length (enc t) = omega (arith, ap length w.is) in
      let o = over-at (table_in table) t w.over k m in
      let e = ap (λ x. get_or x k 0) w.is ∙ get_d_any (enc t) k 0 (table_in table).size m in
      omega (arith, e, o, length-arities_in table (passed table parts.0))

  -- LAW: so are two that stand at one place
  pub both_symbols : (k : ℕ) → k < length one → length one ≡ length two → (get_or one k 0 < symbol_count_lem table) × (get_or two k 0 < symbol_count_lem table)
  both_symbols k l m = (in_table one q.t q.writes_one.holds k l, in_table two q.u q.writes_two.holds k (omega arith))

  symbols : (k n : ℕ) → k < length one → length one ≡ length two → (table_in table).deg (get_or one k 0) (get_or two k 0) ≡ n → symbol_degree_lem table (get_or one k 0) (get_or two k 0) ≡ gives n
  symbols k n l m = let s = both_symbols k l m in gives_degree table parts.0 (get_or one k 0) (get_or two k 0) n s.0 s.1

  some : 0 < length one
  some = omega (arith, ap length q.writes_one.holds.is, some_node q.t)

  -- THEOREM: the degree of two headings is the lowest over their paired symbols
  pub lowest_paired : LowestPaired (symbol_degree_lem table) one two d
  lowest_paired =
      let deg = (table_in table).deg in
      record {
        one_longer = λ n. flat_is ∙ flat_longer deg one two n;
        bounds = λ l k m n f. omega (arith, flat_is, flat_bounds deg one two l k m, same_number n (deg (get_or one k 0) (get_or two k 0)) (inv f ∙ symbols k _ m l refl));
        reached = λ l. let r = flat_reached deg (sound table parts.0).lawful.top one two l some in (r.0, r.1, symbols r.0 d r.1 l (r.2 ∙ inv flat_is));
      }

-- ---- the nearer of two candidates

module _ (table heading one two : List ℕ) (d e : ℕ) (f : heading_degree table heading one ≡ gives d) (g : heading_degree table heading two ≡ gives e) where
  none_refused : first (nearer_rows table heading one two) ≡ none
  unfolding nearer_rows row6 row7
  none_refused =
      let T = table_in table in
      let rest = row7 T heading ∷ row7 T one ∷ row7 T two ∷ [] in
      let a = parts table heading one d f in
      first-append (table_rows table) rest a.0 ∙ silent_first rest (a.1.0, (a.1.1, ((parts table heading two e g).1.1, tt)))

  -- the nearer is chosen by the two degrees
  pub chosen : nearer table heading one two ≡ cond (ltb d e) the_second_lem the_first
  unfolding nearer heading_degree
  chosen =
      let n = (unless_gives (first (degree_rows table heading one)) _ d f).1 in
      let m = (unless_gives (first (degree_rows table heading two)) _ e g).1 in
      rw (none_refused, n, m)

-- where nothing is refused, both degrees are given
pub both_given : (table heading one two : List ℕ) → first (nearer_rows table heading one two) ≡ none → (first (degree_rows table heading one) ≡ none) × (first (degree_rows table heading two) ≡ none)
unfolding nearer_rows degree_rows row6 row7
both_given table heading one two q =
    let T = table_in table in
    let rest = row7 T heading ∷ row7 T one ∷ row7 T two ∷ [] in
    let r = append-none (table_rows table) rest q in
    let s = all_silent rest r.1 in
    (with_one one r.0 s.0 s.1.0, with_one two r.0 s.0 s.1.1.0)
  where
    with_one : (list : List ℕ) → SoundFile table → Silent (row7 (table_in table) heading) → Silent (row7 (table_in table) list) → first (degree_rows table heading list) ≡ none
    with_one list s a b =
        let rest = row6 (table_in table) false heading ∷ row7 (table_in table) list ∷ [] in
        first-append (table_rows table) rest s ∙ silent_first rest (a, (b, tt))
