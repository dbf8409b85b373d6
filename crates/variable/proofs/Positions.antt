-- The positions of one variable, packed one by one: each lays its set behind those of the positions before it, an empty set leaves the
-- variable no form, and a degree can only take the least lower. There are as many positions as the first subterm has nodes.
use mathlib.Core.Path.{◌≡◌, refl, sym as inv, ap, ap₂, ◌∙◌}
use mathlib.Core.Logic.{◌↔◌}
use mathlib.Core.List.{List, [], ◌∷◌, ◌++◌}
use mathlib.Core.Bool.{Bool, true, false, ◌&&◌, not, cond, false≢true}
use Prim.Native.Nat.{ℕ, zero, suc, ◌+◌, ◌*◌, ◌≤◌, ◌<◌, min}
use native.Mathlib.Decide.{dec_lt}
use native.Mathlib.Nat.{zero-add}
use native.Mathlib.Numerals.{add-one}
use native.Mathlib.Omega.{arith}
use borrow.Author.Tests.{le-ltb}
use lib.ListN.{length}
use Rattle.theory.specs.Tree.{Term}
use Rattle.theory.specs.Table.{Table}
use Rattle.theory.specs.Least.{every, some}
use Rattle.theory.specs.Match.{positions, in_set, lowest_at_lem, highest_at}
use Rattle.theory.specs.Stands.{Gathered}
use Rattle.theory.proofs.Lemmas.{some_of}
use Rattle.meaning.specs.Limits.{set_words_lem}
use Rattle.meaning.specs.Packing.{through, words, all_words_lem}
use Rattle.meaning.specs.Buffers.{member}
use Rattle.meaning.specs.Over.{over}
use Rattle.meaning.proofs.Bits.{length-words}
use Rattle.meaning.proofs.Over.{over_none, over_next}
use Rattle.meaning.proofs.Packing.{length-through}
use Rattle.meaning.proofs.Rated.{lowest_last}
use Rattle.meaning.proofs.Words.{through_last, words_last}
use Rattle.sets.specs.Words.{Words}
use Rattle.sets.proofs.Laws.{image_of}
use Rattle.facing.specs.Notes.{note_at, numbers_of}
use Rattle.facing.specs.declared.notes.Note.{Note}
use Rattle.facing.proofs.Numbers.{gathered_each}
use Rattle.variable.specs.Variable.{PackedTo}

-- LAW: where the numbers that pass a test are below n, one below n passes unless none at all does
pub some-unless : (n : ℕ) (b : ℕ → Bool) (none : Bool) → ((s : ℕ) → n ≤ s → b s ≡ false) → (none ≡ true) ↔ ((s : ℕ) → b s ≡ false)
    → some n b ≡ not none
some-unless n b none past tells = go none refl (some n b) refl
  where
    all_fail : (n : ℕ) → ((s : ℕ) → b s ≡ false) → some n b ≡ false
    all_fail zero h = refl
    all_fail (suc n) h = rw (h n) (all_fail n h)

    fails : some n b ≡ false → (s : ℕ) → Dec (s < n) → (t : Bool) → b s ≡ t → b s ≡ false
    fails e s d false p = p
    fails e s (yes l) true p = absurd (false≢true (inv e ∙ some_of n b s l p))
    fails e s (no l) true p = past s (omega arith)

    go : (e : Bool) → none ≡ e → (t : Bool) → some n b ≡ t → some n b ≡ not e
    go true q t p = all_fail n (tells.0 q)
    go false q true p = p
    go false q false p = absurd (false≢true (inv q ∙ tells.1 (λ s. fails p s (dec_lt s n) (b s) refl)))

-- LAW: there are as many positions as the first subterm has nodes
pub positions-first : (notes : List Note) {list : List ℕ} {n : ℕ} {ts : List Term} → Gathered list (numbers_of notes) n ts → 0 < n → positions ts ≡ (note_at notes 0).size
positions-first notes {ts = []} g l = absurd (omega (arith, g.count))
positions-first notes {ts = t ∷ ts} g l = inv (gathered_each notes g 0 l).nodes

module _ (T : Table) (cut : ℕ) (ts : List Term) (before : List ℕ) where
  pub packed_none : PackedTo T cut ts 0 before before true 1000 1000
  packed_none = record { words = over_none before 0; forms = refl; at-worst = refl; at_best = refl }

  abbrev one : ℕ → List (ℕ → Bool)
  one k = in_set T cut ts k ∷ []

  -- LAW: one position more, whose set has these words
  pub packed_next : (k : ℕ) (ws : List ℕ) (empty : Bool) {mid after : List ℕ} {form form' : Bool} {low low' high high' : ℕ}
      → PackedTo T cut ts k before mid form low high → set_words_lem * k ≤ length before
      → Words set_words_lem ws → ((s : ℕ) → member ws s ≡ in_set T cut ts k s)
      → after ≡ over mid (set_words_lem * k) ws
      → (empty ≡ true) ↔ ((s : ℕ) → member ws s ≡ false) → form' ≡ cond empty false form
      → low' ≡ min low (lowest_at_lem T cut ts k) → high' ≡ min high (highest_at T cut ts k)
      → PackedTo T cut ts (k + 1) before after form' low' high'
  packed_next k ws empty {mid = mid} {form = form} h room w is laid tells f l m =
      record {
        words = over_next before 0 (all_words_lem (through k one)) (set_words_lem * k) ws h.words (laid ∙ ap (λ n. over mid n ws) (inv (zero-add (set_words_lem * k)))) long (omega arith)
            ∙ ap (over before 0) behind;
        forms = f ∙ unless empty form ∙ ap₂ ◌&&◌ (inv symbol) h.forms ∙ inv (ap (λ n. every n (λ k. some T.size (in_set T cut ts k))) (add-one k));
        at-worst = l ∙ ap (λ n. min n (lowest_at_lem T cut ts k)) h.at-worst ∙ inv (lowest_last k (lowest_at_lem T cut ts));
        at_best = m ∙ ap (λ n. min n (highest_at T cut ts k)) h.at_best ∙ inv (lowest_last k (highest_at T cut ts));
      }
    where
      long : length (all_words_lem (through k one)) ≡ set_words_lem * k
      long = omega (arith, length-words (through k one), length-through one 1 (λ k. refl) (λ s. false) k)

      image : ws ≡ words (in_set T cut ts k)
      image = image_of set_words_lem ws w (in_set T cut ts k) (λ s l. is s)

      behind : all_words_lem (through k one) ++ ws ≡ all_words_lem (through (k + 1) one)
      behind = ap (λ ws. all_words_lem (through k one) ++ ws) image ∙ inv (ap all_words_lem (through_last k one) ∙ words_last (through k one) (in_set T cut ts k))

      symbol : some T.size (in_set T cut ts k) ≡ not empty
      symbol =
          some-unless T.size (in_set T cut ts k) empty (λ s l. rw (le-ltb s T.size l))
          (λ e s. inv (is s) ∙ tells.0 e s, λ none. tells.1 (λ s. is s ∙ none s))

      unless : (e f : Bool) → cond e false f ≡ (not e && f)
      unless true f = refl
      unless false f = refl
