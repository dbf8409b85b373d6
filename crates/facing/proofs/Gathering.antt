-- Notes gathered for one variable. They grow at their end: a node of the pattern that is the variable adds the note of the subterm that faces
-- it, any other node adds nothing, and at the pattern's end they are of all that face the variable.
use mathlib.Core.Path.{◌≡◌, refl, subst}
use mathlib.Core.List.{List, [], ◌∷◌, ◌++◌}
use Prim.Native.Nat.{ℕ, ◌+◌, ◌*◌, ◌≤◌, ◌<◌}
use native.Mathlib.Nat.{not-suc-le-zero}
use native.Mathlib.Decide.{dec_lt}
use native.Mathlib.Omega.{arith}
use lib.ListN.{length, get_or, take, length-append, get_or-append}
use lib.Seq.{take_all, get_or_at}
use Rattle.theory.specs.Tree.{Term, node, ∅}
use Rattle.theory.specs.Table.{Table}
use Rattle.theory.specs.Faces.{Face, facing}
use Rattle.theory.specs.Stands.{StandsAt, start_of, size_of, put_note_lem, Gathered, Noted}
use Rattle.theory.proofs.Along.{Faced}
use Rattle.theory.proofs.Gathered.{gather_same, gather_other}
use Rattle.theory.proofs.Noted.{put_other, put_start, put_size, note_of}
use Rattle.facing.specs.Gathering.{GatheredBy}

-- ---- terms that stand in a list

-- LAW: none
pub gathered_none : (ys own : List ℕ) → Gathered ys own 0 []
gathered_none ys own = record { count = refl; each = λ o l. absurd (not-suc-le-zero l) }

-- LAW: one term more, noted behind the others
pub gathered_more : {ys own : List ℕ} {n : ℕ} {ts : List Term} → Gathered ys own n ts → 2 * n + 1 < length own
    → (start size : ℕ) (t : Term) → StandsAt ys start size t → Gathered ys (put_note_lem own n start size) (n + 1) (ts ++ (t ∷ []))
gathered_more {ys} {own} {n} {ts} g room start size t s =
    record { count = omega (arith, length-append ts (t ∷ []), g.count); each = λ o l. go o l (dec_lt o n) }
  where
    own' : List ℕ
    own' = put_note_lem own n start size

    go : (o : ℕ) → o < n + 1 → Dec (o < n) → StandsAt ys (start_of own' o) (size_of own' o) (get_or (ts ++ (t ∷ [])) o (node 0 ∅))
    go o l (yes m) =
        let same = put_other own n start size o (λ q. omega arith) in
        rw (same.start, same.size, get_or-append ts (t ∷ []) (node 0 ∅) o (omega (arith, g.count))) (g.each o m)
    go o l (no m) =
        let e : o ≡ n = omega arith in
        rw (e, put_start own n start size room, put_size own n start size room, get_or_at ts t [] (node 0 ∅) n g.count) s

-- ---- along the pattern's list

-- these are the notes of the variable's nodes among the first i
pub record Gathering (pattern notes : List ℕ) (v : ℕ) (own : List ℕ) (n i : ℕ) : Type 0 where
  pub few : n ≤ i
  pub behind : (T : Table) (heading : List ℕ) (fs : List Face) → Faced T pattern fs (length pattern) → Noted heading notes fs
      → Gathered heading own n (facing v (take i fs))

module _ (pattern notes : List ℕ) (v : ℕ) where
  pub gathering_start : (own : List ℕ) → Gathering pattern notes v own 0 0
  gathering_start own = record { few = omega arith; behind = λ T heading fs f h. gathered_none heading own }

  module _ {own : List ℕ} {n i : ℕ} (g : Gathering pattern notes v own n i) where
    pub gathering_end : length pattern ≡ i → GatheredBy pattern notes v n own
    gathering_end e =
        record {
          few = omega (arith, g.few);
          gathered = λ T heading fs f h. subst (λ l. Gathered heading own n (facing v l)) (take_all i fs (omega (arith, f.many))) (g.behind T heading fs f h);
        }

    module _ (l : i < length pattern) where
      pub gathering_same : get_or pattern i 0 ≡ 32768 + v → 2 * n + 1 < length own
          → Gathering pattern notes v (put_note_lem own n (start_of notes i) (size_of notes i)) (n + 1) (i + 1)
      gathering_same e room =
          record {
            few = omega (arith, g.few);
            behind = λ T heading fs f h.
                let s = gather_same f i v l e in
                rw s.on (gathered_more (g.behind T heading fs f h) room (start_of notes i) (size_of notes i) s.subterm (note_of h s));
          }

      pub gathering_other : (get_or pattern i 0 ≡ 32768 + v → ⊥) → Gathering pattern notes v own n (i + 1)
      gathering_other e = record { few = omega (arith, g.few); behind = λ T heading fs f h. rw (gather_other f i v l e) (g.behind T heading fs f h) }
