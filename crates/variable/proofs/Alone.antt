-- A variable that one term faces: at each position its set is the near set of the symbol there, so that the lowest degree is the one kept with that
-- set, and the highest is 1000, that of the symbol with itself.
use mathlib.Core.Path.{◌≡◌, refl, sym as inv, ap, ◌∙◌}
use mathlib.Core.List.{List, [], ◌∷◌}
use mathlib.Core.Bool.{true, ◌&&◌, cond}
use Prim.Native.Nat.{ℕ, ◌+◌, ◌-◌, ◌≤◌, ◌<◌}
use native.Mathlib.Nat.{zero-add}
use native.Mathlib.Omega.{arith}
use borrow.Author.Tests.{lt-ltb, le-leb}
use lib.Dec.{ltb, leb}
use lib.ListN.{length, get_or, take, drop, length-take, length-drop}
use lib.Seq.{take_all, get_or-take, get_or-drop}
use Rattle.theory.specs.Tree.{Term, enc}
use Rattle.theory.specs.Table.{Table}
use Rattle.theory.specs.Match.{size as sizeIn, at, shared, in_set, lowest_at_lem, highest_at}
use Rattle.theory.specs.Stands.{StandsAt, Gathered}
use Rattle.theory.proofs.Gathered.{at_node}
use Rattle.theory.proofs.Lemmas.{le_highest, and_true}
use Rattle.meaning.proofs.Rated.{highest_at_top}
use Rattle.near.specs.Near.{kept, is_near}
use Rattle.facing.specs.Notes.{note_at, numbers_of}
use Rattle.facing.specs.declared.notes.Note.{Note}
use Rattle.facing.proofs.Numbers.{gathered_each}
use Rattle.positions.specs.Position.{Within, Covers, NearOf}
use Rattle.positions.proofs.Members.{lowest-same}
use Rattle.variable.specs.Variable.{PackedAlone, VariablePacked}
use Rattle.variable.specs.declared.Found.{Found}

-- ---- the part of the heading that a note tells of

module _ (heading : List ℕ) (start size : ℕ) (inside : start + size ≤ length heading) where
  abbrev part : List ℕ
  part = take size (drop start heading)

  pub length_part : length part ≡ size
  length_part = simp (length-take, length-drop) (omega arith)

  at_part : (i : ℕ) → i < length part → (start + i < length heading) × (get_or part i 0 ≡ get_or heading (start + i) 0)
  at_part i l =
      let below : i < size = omega (arith, length_part) in
      (omega arith, get_or-take size (drop start heading) i 0 below ∙ get_or-drop start heading i 0)

  -- LAW: its symbols have their near sets too
  pub part_covers : (near : List ℕ) → Covers heading near → Covers part near
  part_covers near covers i l = let at = at_part i l in rw at.1 (covers (start + i) at.0)

  pub part_near : {T : Table} {cut : ℕ} {near : List ℕ} → NearOf T cut near heading → NearOf T cut near part
  part_near known =
      record {
        lawful = known.lawful;
        small = known.small;
        positive = known.positive;
        top = known.top;
        sets = λ i l. let at = at_part i l in rw at.1 (known.sets (start + i) at.0);
        symbols = λ i l. let at = at_part i l in rw at.1 (known.symbols (start + i) at.0);
      }

-- LAW: one note is of one term
pub one_term : (notes : List Note) {heading : List ℕ} {n : ℕ} (ts : List Term) → Gathered heading (numbers_of notes) n ts → n ≡ 1
    → (t : Term) × (ts ≡ t ∷ []) × StandsAt heading (note_at notes 0).start (note_at notes 0).size t
one_term notes [] g e = absurd (omega (arith, g.count))
one_term notes (t ∷ []) g e = (t, refl, gathered_each notes g 0 (omega arith))
one_term notes (t ∷ u ∷ ts) g e = absurd (omega (arith, g.count))

-- ---- its positions

module _ {T : Table} {cut : ℕ} {near nodes : List ℕ} (known : NearOf T cut near nodes) (t : Term) (writes : nodes ≡ enc t) (k : ℕ) (l : k < length nodes) where
  abbrev symbol : ℕ
  symbol = get_or nodes k 0

  stands : at T t k ≡ symbol
  stands =
      let many = ap length writes in
      at_node T t nodes 0 (take_all (sizeIn t) nodes (omega arith) ∙ writes) k (omega arith) ∙ ap (λ (j : ℕ). get_or nodes j 0) (zero-add k)

  shares : (s : ℕ) → shared T (t ∷ []) k s ≡ T.deg s symbol
  shares s = omega (arith, ap (T.deg s) stands, known.lawful.top s symbol)

  itself : T.deg symbol symbol ≡ 1000
  itself = known.lawful.itself symbol (known.symbols k l)

  -- LAW: the symbol is near to itself
  pub itself_near : is_near T cut symbol symbol ≡ true
  itself_near = and_true _ _ (lt-ltb symbol T.size (known.symbols k l)) (le-leb cut (T.deg symbol symbol) (omega (arith, itself, known.top)))

  -- LAW: its set, and the degrees there
  pub set_alone : (s : ℕ) → is_near T cut symbol s ≡ in_set T cut (t ∷ []) k s
  set_alone s = ap (λ (d : ℕ). ltb s T.size && leb cut d) (inv (shares s))

  pub lowest_alone : 1002 - kept near symbol ≡ lowest_at_lem T cut (t ∷ []) k
  lowest_alone = (known.sets k l).low ∙ lowest-same T.size _ _ (λ s _. ap (λ (d : ℕ). cond (ltb s T.size && leb cut d) d 1000) (inv (shares s)))

  pub highest_alone : highest_at T cut (t ∷ []) k ≡ 1000
  highest_alone =
      let f : ℕ → ℕ = λ s. cond (in_set T cut (t ∷ []) k s) (shared T (t ∷ []) k s) 0 in
      let in_set_lem = inv (set_alone symbol) ∙ itself_near in
      let most : f symbol ≡ 1000 = rw in_set_lem (shares symbol ∙ itself) in
      omega (arith, le_highest T.size f symbol (known.symbols k l), highest_at_top T cut (t ∷ []) k)

-- LAW: so a variable with one note is packed by the part of the heading that the note tells of
module _ (T : Table) (near heading : List ℕ) (notes : List Note) where
  abbrev first : Note
  first = note_at notes 0

  pub one_packed : (before after : List ℕ) (r : Found) → Within heading notes → length notes ≡ 1
      → PackedAlone near (take (first.start + first.size - first.start) (drop first.start heading)) before after r
      → VariablePacked T near heading notes before after r
  one_packed before after r within only alone ts g cut known =
      let one = one_term notes ts g only in
      let size = first.start + first.size - first.start in
      let inside : first.start + size ≤ length heading = omega (arith, within 0 (omega arith)) in
      let size_is : size ≡ first.size = omega arith in
      let writes = ap (λ (n : ℕ). take n (drop first.start heading)) size_is ∙ one.2.is in
      rw one.1 (alone T one.0 writes cut (part_near heading first.start size inside known))
