-- A row of degrees, pair by pair: what a pair of a says is right and not 0, since a listed degree is not; and where no pair of a and s is listed,
-- their degree is 0, which stands there.
use mathlib.Core.Path.{◌≡◌, sym as inv, ap₂, ◌∙◌}
use mathlib.Core.Logic.{◌⊎◌, inl, inr, ⊎_elim}
use mathlib.Core.List.{List}
use Prim.Native.Nat.{ℕ, ◌≤◌, ◌<◌}
use native.Mathlib.Decide.{dec_lt, ℕ_discrete}
use native.Mathlib.Omega.{arith}
use lib.ListN.{length, get_or, set, length-set}
use lib.Seq.{get_or-set_same, get_or-set_other}
use Rattle.theory.specs.Table.{Table}
use Rattle.theory.specs.Pairs.{pair}
use Rattle.meaning.specs.File.{pair_count_lem, pairs_in, table_in}
use Rattle.meaning.specs.Tables.{lower_at, higher_at, degree_at}
use Rattle.meaning.specs.Refusals.{SoundFile}
use Rattle.meaning.proofs.Sound.{sound}
use Rattle.meaning.proofs.Bytes.{pair_in_lem}
use Rattle.meaning.proofs.Degrees.{degree_listed}
use Rattle.meaning.proofs.Recognised.{recognised}
use Rattle.table.proofs.Reading.{size_is}
use Rattle.degrees.proofs.Listed.{same_symbols, degree_missed}
use Rattle.wide.specs.Laid.{Joins, Laid, InRow}

-- LAW: a pair that is read is the one that is listed
pub read : (file : List ℕ) (k : ℕ) {l h d : ℕ} → k < pair_count_lem file → pair l h d ≡ get_or (pairs_in file) k (pair 0 0 0)
    → (l ≡ lower_at file k) × (h ≡ higher_at file k) × (d ≡ degree_at file k)
read file k l e = let is = e ∙ pair_in_lem file k l in (cc, cc, cc)

module _ (file : List ℕ) (ok : SoundFile file) (a : ℕ) where
  abbrev T : Table
  T = table_in file

  -- a pair of a has one other symbol
  one_other : (k s t : ℕ) → k < pair_count_lem file → Joins file a s k → Joins file a t k → s ≡ t
  one_other k s t l p q =
      let up = (((recognised file).0 ok).pairs k l).lower_first in
      ⊎_elim
      (λ p. ⊎_elim (λ q. inv p.1 ∙ q.1) (λ q. absurd (omega (arith, p.0, q.0))) q)
      (λ p. ⊎_elim (λ q. absurd (omega (arith, p.0, q.0))) (λ q. inv p.1 ∙ q.1) q)
      p

  -- .. and they have its degree
  joined_degree : (k s : ℕ) → k < pair_count_lem file → Joins file a s k → degree_at file k ≡ T.deg s a
  joined_degree k s l p =
      inv (degree_listed file ok k (lower_at file k) (higher_at file k) (degree_at file k) l (pair_in_lem file k l))
      ∙ ⊎_elim (λ p. ap₂ T.deg p.0 p.1 ∙ (sound file ok).lawful.either a s) (λ p. ap₂ T.deg p.1 p.0) p

  -- two symbols that no pair joins
  not_joined : (s : ℕ) → s < T.size → a < T.size → (s ≡ a → ⊥) → ((k : ℕ) → k < pair_count_lem file → Joins file a s k → ⊥) → T.deg s a ≡ 0
  not_joined s l m other no_pair = go (dec_lt s a)
    where
      few : T.size ≤ 512
      few = omega (arith, size_is file ok, ((recognised file).0 ok).few_symbols)

      go : Dec (s < a) → T.deg s a ≡ 0
      go (yes v) = degree_missed file ok s a v (λ k u e. let same = same_symbols file ok s a (omega (arith, few)) k u e in no_pair k u (inr (inv same.1, inv same.0)))
      go (no v) =
          let up : a < s = omega arith in
          (sound file ok).lawful.either s a
          ∙ degree_missed file ok a s up (λ k u e. let same = same_symbols file ok a s (omega (arith, few)) k u e in no_pair k u (inl (inv same.0, inv same.1)))

  module _ {Seen Then : ℕ → Type 0} {row : List ℕ} (laid : Laid file a Seen row) where
    -- LAW: what was seen is all that there was to be seen
    pub laid_as : ((k : ℕ) → k < pair_count_lem file → Then k → Seen k) → Laid file a Then row
    laid_as seen = record { room = laid.room; right = laid.right; none = λ s l e k m then p. laid.none s l e k m (seen k m then) p }

    -- LAW: the degree of pair k is laid at its other symbol s
    pub laid_more : (k s : ℕ) → k < pair_count_lem file → s < T.size → Joins file a s k
        → ((j : ℕ) → j < pair_count_lem file → (j ≡ k → ⊥) → Then j → Seen j) → Laid file a Then (set row s (degree_at file k))
    laid_more k s l m p seen =
        record {
          room = rw (length-set row s (degree_at file k)) laid.room;
          right = λ t u n. right t u n (ℕ_discrete t s);
          none = λ t u e j v then q. none t u e j v then q (ℕ_discrete t s) (ℕ_discrete j k);
        }
      where
        here : get_or (set row s (degree_at file k)) s 0 ≡ degree_at file k
        here = get_or-set_same row s (degree_at file k) 0 (omega (arith, laid.room))

        there : (t : ℕ) → (t ≡ s → ⊥) → get_or (set row s (degree_at file k)) t 0 ≡ get_or row t 0
        there t n = get_or-set_other row s t (degree_at file k) 0 n

        right : (t : ℕ) → t < T.size → (get_or (set row s (degree_at file k)) t 0 ≡ 0 → ⊥) → Dec (t ≡ s) → get_or (set row s (degree_at file k)) t 0 ≡ T.deg t a
        right t u n (yes e) = rw e (here ∙ joined_degree k s l p)
        right t u n (no d) = there t d ∙ laid.right t u (λ z. n (there t d ∙ z))

        none : (t : ℕ) → t < T.size → get_or (set row s (degree_at file k)) t 0 ≡ 0 → (j : ℕ) → j < pair_count_lem file → Then j → Joins file a t j → Dec (t ≡ s) → Dec (j ≡ k) → ⊥
        none t u e j v then q (yes d) f = omega (arith, rw d at e, here, (((recognised file).0 ok).pairs k l).above_zero)
        none t u e j v then q (no d) (yes f) = d (one_other k t s l (rw f at q) p)
        none t u e j v then q (no d) (no f) = laid.none t u (inv (there t d) ∙ e) j v (seen j v f then) q

  -- LAW: all pairs of a were seen
  pub laid_all : (row : List ℕ) → a < T.size → Laid file a (λ k. InRow file a k ⊎ (higher_at file k ≡ a)) row
      → (s : ℕ) → s < T.size → (s ≡ a → ⊥) → get_or row s 0 ≡ T.deg s a
  laid_all row m laid s l other = go (ℕ_discrete (get_or row s 0) 0)
    where
      go : Dec (get_or row s 0 ≡ 0) → get_or row s 0 ≡ T.deg s a
      go (yes e) = e ∙ inv (not_joined s l m other (λ k u p. laid.none s l e k u (⊎_elim (λ p. inl p.0) (λ p. inr p.0) p) p))
      go (no n) = laid.right s l n
