-- What a match leaves in zeros that it was lent: a variable that is packed ends within what is packed, for which there is room, and any other
-- has no position; a refusal leaves zeros.
use mathlib.Core.Path.{◌≡◌, refl}
use mathlib.Core.List.{List, [], ◌∷◌, ◌++◌}
use mathlib.Core.Bool.{Bool, true, false, cond}
use mathlib.Core.Option.{Option, none, some as just}
use Prim.Native.Nat.{ℕ, ◌+◌, ◌-◌, ◌*◌, ◌≤◌, ◌<◌}
use native.Mathlib.Nat.{add-zero}
use native.Mathlib.Omega.{arith}
use lib.Dec.{leb}
use lib.ListN.{length, get_or, length-replicate}
use Rattle.theory.specs.Table.{Table}
use Rattle.theory.specs.Faces.{Face}
use Rattle.meaning.specs.Limits.{set_words_lem, variable_count, span_width}
use Rattle.meaning.specs.File.{table_in}
use Rattle.meaning.specs.Refusals.{Refusal, refusal, first}
use Rattle.meaning.specs.Packing.{order, count_of, start_in, among, span_from, packed_count, packed_spans}
use Rattle.meaning.specs.Calls.{zeros, later, faces_in, match_rows, later_spans, later_sets}
use Rattle.meaning.proofs.Packing.{span_at}
use Rattle.meaning.proofs.Loop.{span_within}
use Rattle.meaning.proofs.Lengths.{rooms, lengths}
use Rattle.lines.specs.Spans.{Spanned}
use Rattle.lines.proofs.Spans.{ending, zero_ending}

packed_ending : (T : Table) (cut : ℕ) (fs : List Face) (rest : List ℕ) (v : ℕ) → v < variable_count → ending (packed_spans T cut fs ++ rest) v ≤ packed_count fs
unfolding packed_count
packed_ending T cut fs rest v l =
    let one = rw add-zero at (span_at T cut fs rest v 0 l (omega arith)) in
    rw (one, span_at T cut fs rest v 1 l (omega arith)) (go (among v (order fs)) refl)
  where
    here : Bool → List ℕ
    here b = cond b (span_from T cut fs (start_in (count_of fs) v (order fs)) v) (0 ∷ 0 ∷ 0 ∷ 0 ∷ [])

    go : (b : Bool) → among v (order fs) ≡ b → get_or (here b) 0 0 + get_or (here b) 1 0 ≤ packed_count fs
    go true e = span_within (count_of fs) v (order fs) e
    go false e = omega arith

module _ (table pattern heading : List ℕ) (cut n : ℕ) (sets : List ℕ) where
  inside : (v : ℕ) → v < variable_count → set_words_lem * ending (later_spans table pattern heading cut (zeros n) sets) v ≤ length sets
  unfolding later_spans faces_in
  inside v m = go (first (match_rows table pattern heading cut (zeros n) sets)) refl
    where
      filled : List ℕ
      filled = packed_spans (table_in table) cut (faces_in table pattern heading)

      blank : (b : Bool) (k : ℕ) → set_words_lem * ending (cond b (zeros n) (zeros k)) v ≤ length sets
      blank true k = omega (arith, zero_ending n v)
      blank false k = omega (arith, zero_ending k v)

      go : (o : Option Refusal) → first (match_rows table pattern heading cut (zeros n) sets) ≡ o → set_words_lem * ending (later o filled (zeros n)) v ≤ length sets
      go none e = omega (arith, packed_ending (table_in table) cut (faces_in table pattern heading) (zeros (length (zeros n) - length filled)) v m, (rooms table pattern heading cut (zeros n) sets e).1)
      go (just (refusal k place)) e = blank (leb k 8) (length (zeros n))

  -- LAW: what a match leaves in zeros, and in sets, spans its variables
  pub match_spanned : span_width * variable_count ≤ n → Spanned (later_spans table pattern heading cut (zeros n) sets) (later_sets table pattern heading cut (zeros n) sets)
  match_spanned l =
      record {
        spans_there = omega (arith, lengths.of_spans table pattern heading cut (zeros n) sets, length-replicate {A = ℕ} n 0);
        sets_there = λ v m. omega (arith, lengths.of_sets table pattern heading cut (zeros n) sets, inside v m);
      }
