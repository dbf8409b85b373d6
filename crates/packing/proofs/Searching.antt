-- What is found once variables are packed, one after the other: each adds its positions, its span and its sets behind those of the others, and
-- what it brings to the degrees. Once all are, that is what the match answers.
use mathlib.Core.Path.{◌≡◌, refl, sym as inv, ap, ◌∙◌}
use mathlib.Core.List.{List, [], ◌∷◌, ◌++◌}
use mathlib.Core.Bool.{Bool, true, false, not, cond}
use Prim.Native.Nat.{ℕ, ◌+◌, ◌*◌, ◌≤◌, ◌<◌, min}
use native.Mathlib.Nat.{zero-add}
use native.Mathlib.Omega.{arith}
use lib.Dec.{ltb}
use lib.ListN.{length}
use borrow.Author.Tests.{lt-ltb, ltb-false}
use Rattle.std.specs.Prelude.{Some, None, unwrap_or}
use Rattle.theory.specs.Table.{Table}
use Rattle.theory.specs.Least.{least}
use Rattle.theory.specs.Faces.{Face, facing}
use Rattle.theory.specs.Match.{formed, lowest_for, highest_for}
use Rattle.theory.proofs.Lemmas.{least_top}
use Rattle.meaning.specs.Limits.{set_words_lem, variable_count, span_width}
use Rattle.meaning.specs.Packing.{through, order, count_of, sum, among, span_from, packed_count, sets_of, all_words_lem, packed_sets}
use Rattle.meaning.specs.Calls.{zeros}
use Rattle.meaning.specs.Search.{symbol_worth, unformed, worst}
use Rattle.meaning.specs.Over.{over}
use Rattle.meaning.proofs.Lacking.{worst_bad, worst_good}
use Rattle.meaning.proofs.Loop.{sum_last}
use Rattle.meaning.proofs.Over.{over_none, over_next}
use Rattle.meaning.proofs.Packing.{one}
use Rattle.meaning.proofs.Rated.{least_last, least-brings}
use Rattle.meaning.proofs.Words.{words_append, sets_last, words_many}
use Rattle.packing.specs.Pack.{lacking_of, PackedNext, PackedAll}
use Rattle.packing.specs.declared.Search.{Search}
use Rattle.packing.proofs.Spans.{spans_in, spans_none, spans_next, spans_all}

-- The variables vs are packed: n zeros stand behind the spans, and the sets lie over the buffer `before`.
pub record Searched (T : Table) (cut : ℕ) (fs : List Face) (vs : List ℕ) (n : ℕ) (before : List ℕ) (search : Search) (spans sets : List ℕ) : Type 0 where
  pub many : search.packed ≡ sum (count_of fs) vs
  pub lacks : search.lacking ≡ lacking_of (worst (unformed T cut fs) vs)
  pub low : search.degrees.lowest ≡ min (least (symbol_worth T) fs) (least (λ v. lowest_for T cut (facing v fs)) vs)
  pub high : search.degrees.highest ≡ min (least (symbol_worth T) fs) (least (λ v. highest_for T cut (facing v fs)) vs)
  pub spanned : spans ≡ spans_in T cut fs vs ++ zeros n
  pub words : sets ≡ over before 0 (all_words_lem (sets_of T cut fs vs))

-- one variable more that lacks a form
lacks_too : (n v : ℕ) → v < variable_count → Some (min (unwrap_or (lacking_of n) v) v) ≡ lacking_of (min n v)
lacks_too n v l = go (ltb n variable_count) refl
  where
    go : (b : Bool) → ltb n variable_count ≡ b → Some (min (unwrap_or (cond b (Some n) None) v) v) ≡ lacking_of (min n v)
    go true e = rw (lt-ltb (min n v) variable_count (omega arith))
    go false e = let past = ltb-false n variable_count e in rw (lt-ltb (min n v) variable_count (omega arith)) (ap Some (omega (arith, past)))

module _ (T : Table) (cut : ℕ) (fs : List Face) (n : ℕ) (before : List ℕ) where
  -- LAW: none is packed
  pub searched_none : (base : ℕ) {spans : List ℕ} → base ≡ least (symbol_worth T) fs → spans ≡ zeros (span_width * variable_count + n)
      → Searched T cut fs [] n before (record { packed = 0; lacking = None; degrees = record { lowest = base; highest = base } }) spans before
  searched_none base e z =
      record {
        many = refl;
        lacks = refl;
        low = omega (arith, least_top (symbol_worth T) fs);
        high = omega (arith, least_top (symbol_worth T) fs);
        spanned = z ∙ spans_none T cut fs n;
        words = over_none before 0;
      }

  -- LAW: one variable more
  pub searched_next : (vs : List ℕ) (v : ℕ) {search after : Search} {spans spans' sets sets' : List ℕ}
      → Searched T cut fs vs n before search spans sets → among v vs ≡ false → v < variable_count
      → set_words_lem * search.packed ≤ length before → PackedNext T cut (facing v fs) v search after spans spans' sets sets'
      → Searched T cut fs (vs ++ (v ∷ [])) n before after spans' sets'
  searched_next vs v {search} h new l room p =
      record {
        many = omega (arith, p.packed, h.many, sum_last (count_of fs) v vs);
        lacks = p.lacking ∙ lacking (formed T cut (facing v fs)) refl;
        low = omega (arith, p.lowest, h.low, least_last (λ v. lowest_for T cut (facing v fs)) vs v);
        high = omega (arith, p.highest, h.high, least_last (λ v. highest_for T cut (facing v fs)) vs v);
        spanned = p.span
            ∙ ap (λ l. over l (span_width * v) (span_from T cut fs search.packed v)) h.spanned
            ∙ spans_next T cut fs vs v search.packed (zeros n) new l h.many;
        words = over_next before 0 packed (set_words_lem * search.packed) added h.words (rw zero-add p.words) (omega (arith, words_many T cut fs vs, h.many)) (omega arith)
            ∙ ap (over before 0) behind;
      }
    where
      packed : List ℕ
      packed = all_words_lem (sets_of T cut fs vs)

      added : List ℕ
      added = all_words_lem (through (count_of fs v) (one T cut fs v))

      behind : packed ++ added ≡ all_words_lem (sets_of T cut fs (vs ++ (v ∷ [])))
      behind = inv (words_append (sets_of T cut fs vs) (through (count_of fs v) (one T cut fs v))) ∙ ap all_words_lem (inv (sets_last T cut fs vs v))

      lacking : (b : Bool) → formed T cut (facing v fs) ≡ b → cond b search.lacking (Some (min (unwrap_or search.lacking v) v)) ≡ lacking_of (worst (unformed T cut fs) (vs ++ (v ∷ [])))
      lacking true e = h.lacks ∙ ap lacking_of (inv (worst_good (unformed T cut fs) vs v (ap not e)))
      lacking false e =
          ap (λ o. Some (min (unwrap_or o v) v)) h.lacks
          ∙ lacks_too (worst (unformed T cut fs) vs) v l
          ∙ ap lacking_of (inv (worst_bad (unformed T cut fs) vs v (ap not e)))

  -- LAW: all are packed
  pub searched_all : {search : Search} {spans sets : List ℕ} → Searched T cut fs (order fs) n before search spans sets → PackedAll T cut fs search spans before sets
  unfolding packed_count packed_sets
  searched_all h =
      record {
        packed = h.many;
        lacking = h.lacks;
        lowest = h.low ∙ inv (least-brings T (λ v. lowest_for T cut (facing v fs)) fs);
        highest = h.high ∙ inv (least-brings T (λ v. highest_for T cut (facing v fs)) fs);
        spans_are = spans_all T cut fs n h.spanned;
        sets_are = h.words;
      }
