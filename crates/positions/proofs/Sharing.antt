-- The symbols near to all that stand at a position, as one near set after the other is met: each symbol that stands there lets through those that
-- are near to it, and the least that the near sets go down to bounds what the shared symbols have.
use mathlib.Core.Path.{◌≡◌, refl, sym as inv, ap, ap₂, ◌∙◌}
use mathlib.Core.List.{List}
use mathlib.Core.Bool.{Bool, true, false, ◌&&◌, cond, false≢true}
use Prim.Native.Nat.{ℕ, ◌+◌, ◌/◌, ◌%◌, ◌^◌, ◌≤◌, ◌<◌, min}
use native.Mathlib.Decide.{dec_lt, dec_le}
use native.Mathlib.Omega.{arith}
use borrow.Author.Tests.{lt-ltb, le-ltb, le-leb, lt-leb, leb-true, eq-eqb, ne_eqb}
use lib.Dec.{ltb, leb, eqb}
use lib.ListN.{length, length-replicate}
use Rattle.theory.specs.Table.{Table, Lawful}
use Rattle.theory.specs.Least.{lowest}
use Rattle.theory.proofs.Lemmas.{fewest, lowest_le, lowest_top, le_lowest, and_right, and_true, skipped}
use Rattle.meaning.specs.Limits.{word_bits, set_words_lem, set_room}
use Rattle.meaning.specs.Buffers.{member}
use Rattle.sets.specs.Words.{NoneBetween, one_bit}
use Rattle.sets.proofs.Laws.{none_past, member_one, member-zeros}
use Rattle.meaning.specs.Calls.{zeros}
use Rattle.std.proofs.lemmas.List.{set_past}
use Rattle.near.specs.Near.{in_row, Kept, is_near, NearSet}
use Rattle.wide.specs.Shared.{shared_by_lem}
use Rattle.positions.specs.Position.{KeptOf, floor_of, SharedIs}
use Rattle.positions.proofs.Members.{fewest_next}

-- LAW: the words of the near set of h are the symbols near to h
pub near_members : {T : Table} {cut : ℕ} {near : List ℕ} {h : ℕ} → T.size ≤ set_room → NearSet T cut near h → (words : List ℕ) → length words ≡ set_words_lem
    → ((k : ℕ) → k < set_room → member words k ≡ in_row near h k) → (s : ℕ) → member words s ≡ is_near T cut h s
near_members {T} {cut} {near} {h} small known words many same s = go (dec_lt s set_room)
  where
    go : Dec (s < set_room) → member words s ≡ (ltb s T.size && leb cut (T.deg s h))
    go (yes l) = same s l ∙ known.has s l
    go (no l) = rw (le-ltb s T.size (omega arith)) (none_past set_words_lem words many s (omega arith))

-- LAW: where a symbol stands alone its near set is there, and it tells what is a member
pub one_kept : {near : List ℕ} {symbols : ℕ} (symbol : ℕ) → KeptOf near symbols (one_bit set_words_lem symbol)
    → Kept near symbol × ((h : ℕ) → member (one_bit set_words_lem symbol) h ≡ eqb h symbol)
one_kept {near} symbol known = go (dec_lt symbol set_room)
  where
    go : Dec (symbol < set_room) → Kept near symbol × ((h : ℕ) → member (one_bit set_words_lem symbol) h ≡ eqb h symbol)
    go (yes l) = let one = member_one set_words_lem symbol l in (known.kept symbol (one symbol ∙ eq-eqb symbol symbol refl), one)
    go (no l) =
        let none = set_past (zeros set_words_lem) (symbol / word_bits) (2 ^ (symbol % word_bits)) (omega (arith, length-replicate {A = ℕ} set_words_lem 0)) in
        let some = known.some in
        absurd (false≢true (inv (ap (λ (ws : List ℕ). member ws some.0) none ∙ member-zeros set_words_lem some.0) ∙ some.1))

-- a number reaches the lesser of two exactly if it reaches both
leb_min : (c a b : ℕ) → leb c (min a b) ≡ (leb c a && leb c b)
leb_min c a b = go (dec_le c a) (dec_le c b)
  where
    go : Dec (c ≤ a) → Dec (c ≤ b) → leb c (min a b) ≡ (leb c a && leb c b)
    go (yes p) (yes q) = rw (le-leb c a p, le-leb c b q) (le-leb c (min a b) (omega arith))
    go (yes p) (no q) = rw (le-leb c a p, lt-leb c b (omega arith)) (lt-leb c (min a b) (omega arith))
    go (no p) q = rw (lt-leb c a (omega arith)) (lt-leb c (min a b) (omega arith))

-- ---- one symbol after the other

module _ (T : Table) (cut : ℕ) (faced : List ℕ) where
  -- the lowest degree in the near set of h
  abbrev lowest_near : ℕ → ℕ
  lowest_near h = lowest T.size (λ s. cond (is_near T cut h s) (T.deg s h) 1000)

  -- of those that stand there, the ones below m are met, and there is one
  pub record MetTo (m : ℕ) (set : List ℕ) (floor : ℕ) : Type 0 where
    pub set_is : (s : ℕ) → member set s ≡ (ltb s T.size && leb cut (fewest (member faced) (T.deg s) m))
    pub floor_is : floor ≡ fewest (member faced) lowest_near m

  module _ (L : Lawful T) where
    -- LAW: the first
    pub met_first : {h floor : ℕ} {set : List ℕ} → NoneBetween faced 0 h → member faced h ≡ true → ((s : ℕ) → member set s ≡ is_near T cut h s)
        → floor ≡ lowest_near h → MetTo (h + 1) set floor
    met_first {h} none is near low =
        record {
          set_is = λ s. near s ∙ ap (λ (d : ℕ). ltb s T.size && leb cut d) (alone (T.deg s) (L.top s h));
          floor_is = low ∙ alone lowest_near (lowest_top T.size (λ s. cond (is_near T cut h s) (T.deg s h) 1000));
        }
      where
        alone : (f : ℕ → ℕ) → f h ≤ 1000 → f h ≡ fewest (member faced) f (h + 1)
        alone f top = omega (arith, fewest_next (member faced) f 0 h (omega arith) is none)

    -- LAW: one more
    pub met_next : {m h floor floor' low : ℕ} {set both : List ℕ} (other : List ℕ) → m ≤ h → member faced h ≡ true → NoneBetween faced m h
        → ((s : ℕ) → member other s ≡ is_near T cut h s) → ((s : ℕ) → member both s ≡ (member set s && member other s)) → low ≡ lowest_near h → floor' ≡ min floor low
        → MetTo m set floor → MetTo (h + 1) both floor'
    met_next {m} {h} {floor} {floor'} {low} {set} {both} other up is none near meet lows floors met =
        record {
          set_is = λ s.
              meet s
              ∙ ap₂ ◌&&◌ (met.set_is s) (near s)
              ∙ once (ltb s T.size) (leb cut (fewest (member faced) (T.deg s) m)) (leb cut (T.deg s h))
              ∙ ap (λ (b : Bool). ltb s T.size && b) (inv (leb_min cut (fewest (member faced) (T.deg s) m) (T.deg s h)) ∙ ap (leb cut) (inv (fewest_next (member faced) (T.deg s) m h up is none)));
          floor_is = omega (arith, met.floor_is, lows, floors, fewest_next (member faced) lowest_near m h up is none);
        }
      where
        once : (a b c : Bool) → ((a && b) && (a && c)) ≡ (a && (b && c))
        once true b c = refl
        once false b c = refl

  -- LAW: at the end all are met
  pub met_all : {m floor : ℕ} {set : List ℕ} → m ≤ T.size → NoneBetween faced m T.size → MetTo m set floor → SharedIs T cut faced set floor
  met_all {m} l none met =
      record {
        set_is = λ s. met.set_is s ∙ ap (λ (d : ℕ). ltb s T.size && leb cut d) (inv (skipped (member faced) (T.deg s) m T.size l none).0);
        floor_is = met.floor_is ∙ inv (skipped (member faced) lowest_near m T.size l none).0;
      }

  -- LAW: one alone
  pub met_alone : {h floor : ℕ} {set : List ℕ} → Lawful T → h < T.size → ((k : ℕ) → member faced k ≡ eqb k h) → ((s : ℕ) → member set s ≡ is_near T cut h s)
      → floor ≡ lowest_near h → SharedIs T cut faced set floor
  met_alone {h} L inside only near low =
      met_all {m = h + 1} (omega arith) (λ k l m. other k (λ e. omega arith)) (met_first L (λ k l m. other k (λ e. omega arith)) (only h ∙ eq-eqb h h refl) near low)
    where
      other : (k : ℕ) → (k ≡ h → ⊥) → member faced k ≡ false
      other k d = only k ∙ ne_eqb k h d

-- ---- the floor

module _ {T : Table} (L : Lawful T) {cut : ℕ} (top : cut ≤ 1000) (faced : List ℕ) where
  -- LAW: the floor reaches the cut
  pub cut_floor : cut ≤ floor_of T cut faced
  cut_floor = le_lowest T.size _ cut top (λ h l. at h (member faced h))
    where
      in_set_lem : (h s : ℕ) (b : Bool) → is_near T cut h s ≡ b → cut ≤ cond b (T.deg s h) 1000
      in_set_lem h s true e = leb-true cut (T.deg s h) (and_right (ltb s T.size) (leb cut (T.deg s h)) e)
      in_set_lem h s false e = top

      at : (h : ℕ) (b : Bool) → cut ≤ cond b (lowest_near T cut faced h) 1000
      at h true = le_lowest T.size _ cut top (λ s l. in_set_lem h s (is_near T cut h s) refl)
      at h false = top

  -- LAW: no shared symbol goes below it
  pub floor_shared : (s : ℕ) → s < T.size → cut ≤ shared_by_lem T faced s → floor_of T cut faced ≤ shared_by_lem T faced s
  floor_shared s l reaches = le_lowest T.size _ (floor_of T cut faced) (lowest_top T.size _) (λ h m. at h m (member faced h) refl)
    where
      at : (h : ℕ) → h < T.size → (b : Bool) → member faced h ≡ b → floor_of T cut faced ≤ cond b (T.deg s h) 1000
      at h m false e = lowest_top T.size _
      at h m true e =
          let degree = rw e at (lowest_le T.size (λ h. cond (member faced h) (T.deg s h) 1000) h m) in
          let near : is_near T cut h s ≡ true = and_true (ltb s T.size) (leb cut (T.deg s h)) (lt-ltb s T.size l) (le-leb cut (T.deg s h) (omega (arith, degree, reaches))) in
          let first = rw e at (lowest_le T.size (λ h. cond (member faced h) (lowest_near T cut faced h) 1000) h m) in
          let second = rw near at (lowest_le T.size (λ s. cond (is_near T cut h s) (T.deg s h) 1000) s l) in
          omega (arith, first, second)
