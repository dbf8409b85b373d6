-- One position of a variable that several subterms face: what the functions on the position give is the set there, and its degrees taken into the
-- least so far.
use mathlib.Core.Path.{◌≡◌, sym as inv, ap, ◌∙◌}
use mathlib.Core.List.{List}
use mathlib.Core.Bool.{true, false}
use Prim.Native.Nat.{ℕ, ◌+◌, ◌≤◌, ◌<◌, min}
use native.Mathlib.Omega.{arith}
use lib.ListN.{length, get_or}
use Rattle.std.specs.Prelude.{Option, Some, None, MatchOption, IfSome}
use Rattle.theory.specs.Tree.{Term}
use Rattle.theory.specs.Table.{Table}
use Rattle.theory.specs.Match.{in_set, lowest_at_lem, highest_at}
use Rattle.theory.specs.Stands.{Gathered}
use Rattle.meaning.specs.Limits.{set_room}
use Rattle.meaning.specs.Buffers.{member}
use Rattle.refusal.specs.declared.Degrees.{Degrees}
use Rattle.facing.specs.Notes.{note_at, numbers_of}
use Rattle.facing.specs.declared.notes.Note.{Note}
use Rattle.positions.specs.Position.{KeptOf, NearOf, NearTo, StandAt, SharedBy}
use Rattle.positions.specs.Looked.{words_of, LookedAt, AloneBelow, DegreesAt}
use Rattle.positions.specs.declared.faced.Faced.{Faced}
use Rattle.positions.specs.declared.faced.Faced.TheVariants.{Alone, Several}
use Rattle.positions.specs.declared.shared.Shared.{Shared}
use Rattle.positions.proofs.Standing.{set-shared, lowest-shared, highest-shared, set-none, lowest-none, highest-none}
use Rattle.variable.specs.Variable.{OwnNotes}

module _ {T : Table} {near heading : List ℕ} {notes : List Note} (own : OwnNotes T near heading notes) {k : ℕ} {faced : List ℕ} (stand : StandAt heading notes k (length notes) faced) where
  -- a symbol that stands there has its place in the heading
  place : (h : ℕ) → member faced h ≡ true → (i : ℕ) × (i < length heading) × (get_or heading i 0 ≡ h)
  place h e =
      let o = stand.only h e in
      ((note_at notes o.0).start + k, omega (arith, stand.reach o.0 o.1, own.within o.0 o.1), o.2)

  -- LAW: the near sets of what stands there are gathered
  pub stand_kept : {symbols : ℕ} → symbols ≡ T.size → symbols ≤ set_room → KeptOf near symbols faced
  stand_kept size few =
      record {
        few = few;
        kept = λ h e. let i = place h e in rw i.2 at (own.covers i.0 i.1);
        below = λ h e. let i = place h e in omega (arith, own.symbols i.0 i.1, i.2);
        some = (_, stand.each 0 own.some);
      }

  -- .. and are those of the table at the cut
  pub stand_near : {cut : ℕ} → NearOf T cut near heading → NearTo T cut near faced
  stand_near known =
      record {
        lawful = known.lawful;
        small = known.small;
        sets = λ h e. let i = place h e in rw i.2 at (known.sets i.0 i.1);
        symbols = λ h e. let i = place h e in omega (arith, known.symbols i.0 i.1, i.2);
      }

-- LAW: so are those of whatever was found to stand there
pub looked_kept : {T : Table} {near heading : List ℕ} {notes : List Note} (own : OwnNotes T near heading notes) {k symbols : ℕ} (faced : Option Faced) → LookedAt heading notes k faced
    → symbols ≡ T.size → symbols ≤ set_room → IfSome faced (λ there. KeptOf near symbols (words_of there))
looked_kept own None looked size few = tt
looked_kept own (Some there) looked size few = stand_kept own looked.stand size few

-- LAW: a symbol that stands there alone is one of the table's
pub looked_below : {T : Table} {near heading : List ℕ} {notes : List Note} (own : OwnNotes T near heading notes) {k : ℕ} (faced : Option Faced) → LookedAt heading notes k faced
    → k < (note_at notes 0).size → AloneBelow T.size faced
looked_below own None looked inside = tt
looked_below {notes = notes} own {k} (Some (Alone symbol)) looked inside =
    omega (arith, looked.alone_is, own.within 0 own.some, own.symbols ((note_at notes 0).start + k) (omega (arith, own.within 0 own.some)))
looked_below own (Some (Several set)) looked inside = tt

-- LAW: degrees do not rise
pub degrees_fall : (T : Table) (faced : Option Faced) (set : List ℕ) (floor : ℕ) {before r : Degrees} → DegreesAt T faced set floor before r
    → (r.lowest ≤ before.lowest) × (r.highest ≤ before.highest)
degrees_fall T None set floor d = (omega arith, omega arith)
degrees_fall T (Some there) set floor d = (d.lowest_falls, d.highest_falls)

module _ {T : Table} {cut : ℕ} {near heading : List ℕ} {notes : List Note} (own : OwnNotes T near heading notes) (known : NearOf T cut near heading)
    {ts : List Term} (g : Gathered heading (numbers_of notes) (length notes) ts) (k : ℕ) where
  -- The set of the position, and its degrees with those before.
  pub record Position (set : List ℕ) (before r : Degrees) : Type 0 where
    pub set_is : (s : ℕ) → member set s ≡ in_set T cut ts k s
    pub lowest_is : r.lowest ≡ min before.lowest (lowest_at_lem T cut ts k)
    pub highest_is : r.highest ≡ min before.highest (highest_at T cut ts k)

  -- LAW
  pub position : (faced : Option Faced) (shared : Shared) (before r : Degrees) {symbols : ℕ} → T.size ≡ symbols → before.lowest ≤ 1000 → LookedAt heading notes k faced
      → MatchOption faced ((s : ℕ) → member shared.set.words s ≡ false) (λ there. SharedBy near symbols (words_of there) shared.set.words shared.floor)
      → DegreesAt T faced shared.set.words shared.floor before r → Position shared.set.words before r
  position None shared before r size top looked none degrees =
      let short = looked.stand in
      record {
        set_is = λ s. none s ∙ inv (set-none known notes g k short s);
        lowest_is = omega (arith, degrees.0, lowest-none known notes g k short);
        highest_is = omega (arith, degrees.1, highest-none known notes g k short);
      }
  position (Some there) shared before r size top looked set degrees =
      let stand = looked.stand in
      let is = set T cut size (stand_near own stand known) in
      let rated = degrees.rated cut known.lawful known.top is in
      record {
        set_is = λ s. is.set_is s ∙ set-shared known notes g k stand s;
        lowest_is = rated.lowest_is ∙ ap (min before.lowest) (lowest-shared known notes g k stand);
        highest_is = rated.highest_is ∙ ap (min before.highest) (highest-shared known notes g k stand);
      }
