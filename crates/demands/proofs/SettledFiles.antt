-- What the statements leave open of reading back, of the writer and of the converter: nothing. What was written is of bytes and reads back to the same
-- arities and pairs, so it is the file of these; of what was converted they say it outright.
use mathlib.Core.Path.{◌≡◌, refl, sym as inv, ap, ap₂, ◌∙◌}
use mathlib.Core.List.{List, [], ◌∷◌, ◌++◌}
use mathlib.Core.Option.{Option, none, some as just}
use Prim.Native.Nat.{ℕ, ◌*◌, ◌≤◌, ◌<◌}
use native.Mathlib.Decide.{dec_lt}
use native.Mathlib.Omega.{arith}
use lib.ListN.{length, take, drop, take-append-drop}
use Rattle.theory.specs.Pairs.{Pair}
use Rattle.meaning.specs.File.{symbol_count_lem, pair_count_lem, total, file_of}
use Rattle.meaning.specs.Refusals.{Refusal, refusal, Row, first, row14, table_rows}
use Rattle.meaning.specs.Calls.{Answer, refused, gives, writer_rows, back_rows}
use Rattle.meaning.specs.Demands.{Exactly}
use Rattle.meaning.specs.Tables.{Wrote, Writes}
use Rattle.meaning.specs.Saved.{widened, widen_rows, Widens}
use Rattle.meaning.proofs.Compose.{first_stays}
use Rattle.meaning.proofs.Writing.{write_back}
use Rattle.demands.specs.Program.{Program}
use Rattle.demands.specs.Demand1.{Demand1}
use Rattle.demands.specs.Further.{Further}
use Rattle.demands.proofs.Exact.{by_refusal, by_none, same_answer}

-- ---- reading back

-- two answers, refused alike where the table is, and alike at every index of one that is not
back_alike : {A : Type 0} (table : List ℕ) (index count : ℕ) (a b : Answer A) → Exactly (back_rows table index count) a → Exactly (back_rows table index count) b
    → (first (table_rows table) ≡ none → index < count → a ≡ b) → (first (table_rows table) ≡ none → count ≤ index → a ≡ b) → a ≡ b
unfolding back_rows
back_alike table index count a b e f there past = go (first (table_rows table)) refl (dec_lt index count)
  where
    go : (o : Option Refusal) → first (table_rows table) ≡ o → Dec (index < count) → a ≡ b
    go none q (yes l) = there q l
    go none q (no m) = past q (omega arith)
    go (just (refusal n place)) q d =
        let r = first_stays (table_rows table) (row14 index count ∷ []) n place q in
        by_refusal (back_rows table index count) a e n place r ∙ inv (by_refusal (back_rows table index count) b f n place r)

-- ---- what was written

-- so much of the result of a call that writes is fixed: by what it is refused, and what else lies in front of what the output held
pub record Fixed (rows : List Row) (size : ℕ) (front output : List ℕ) (r : Wrote) : Type 0 where
  pub refusals : Exactly rows r.answer
  pub refusal_leaves : (n place : ℕ) → r.answer ≡ refused n place → r.output ≡ output
  pub counted : (n : ℕ) → r.answer ≡ gives n → n ≡ size
  pub laid : (n : ℕ) → r.answer ≡ gives n → r.output ≡ front ++ drop n output

module _ (rows : List Row) (size : ℕ) (front output : List ℕ) (r s : Wrote) (w : Fixed rows size front output r) (v : Fixed rows size front output s) where
  given : (r : Wrote) → Fixed rows size front output r → first rows ≡ none → r.answer ≡ gives size
  given r w q = let g = by_none rows r.answer w.refusals q in g.1 ∙ ap gives (w.counted g.0 g.1)

  answers : r.answer ≡ s.answer
  answers = same_answer rows r.answer s.answer w.refusals v.refusals (λ q. given r w q ∙ inv (given s v q))

  outputs : r.output ≡ s.output
  outputs = go (first rows) refl
    where
      go : (o : Option Refusal) → first rows ≡ o → r.output ≡ s.output
      go (just (refusal n place)) q =
          w.refusal_leaves n place (by_refusal rows r.answer w.refusals n place q)
          ∙ inv (v.refusal_leaves n place (by_refusal rows s.answer v.refusals n place q))
      go none q = w.laid size (given r w q) ∙ inv (v.laid size (given s v q))

  -- LAW: that is all of it
  same_wrote : r ≡ s
  same_wrote = λ i. record { answer = answers i; output = outputs i }

-- LAW: the writer's: the front is of bytes and reads back to these arities and pairs, so it is their file
file_fixed : (arities : List ℕ) (pairs : List Pair) (output : List ℕ) (r : Wrote) → Exactly (writer_rows arities pairs output) r.answer → Writes arities pairs output r
    → Fixed (writer_rows arities pairs output) (total (length arities) (length pairs)) (file_of arities pairs) output r
file_fixed arities pairs output r e w =
    record {
      refusals = e;
      refusal_leaves = w.refusal_leaves;
      counted = w.returns;
      laid = λ n g.
          inv (take-append-drop n r.output)
          ∙ ap₂ (λ x y. x ++ y)
          (inv (write_back (take n r.output) (w.is_bytes n g) (w.is_table_lem-is n g)) ∙ ap₂ file_of (w.same_arities n g) (w.same_pairs n g))
          (w.rest_stays n g);
    }

-- LAW: the converter's
words_fixed : (words output : List ℕ) (r : Wrote) → Exactly (widen_rows words output) r.answer → Widens words output r
    → Fixed (widen_rows words output) (2 * length words) (widened words) output r
words_fixed words output r e w =
    record {
      refusals = e;
      refusal_leaves = w.refusal_leaves;
      counted = w.twice;
      laid = λ n g. inv (take-append-drop n r.output) ∙ ap₂ (λ x y. x ++ y) (w.front n g) (w.rest_stays n g);
    }

-- ---- call by call

module _ (P Q : Program) (one : Demand1 P) (one' : Demand1 Q) (more : Further P) (more' : Further Q) where
  pub same_arity_of : (table : List ℕ) (symbol : ℕ) → P.arity_of_lem table symbol ≡ Q.arity_of_lem table symbol
  same_arity_of table symbol =
      back_alike table symbol (symbol_count_lem table) _ _ (one.arity_of_lem-is table symbol) (one'.arity_of_lem-is table symbol)
      (λ q l. (more.reads_back table q).arity symbol l ∙ inv ((more'.reads_back table q).arity symbol l))
      (λ q l. (more.reads_back table q).no_symbol symbol l ∙ inv ((more'.reads_back table q).no_symbol symbol l))

  pub same_pair_of : (table : List ℕ) (index : ℕ) → P.pair_of table index ≡ Q.pair_of table index
  same_pair_of table index =
      back_alike table index (pair_count_lem table) _ _ (one.pair_of_lem table index) (one'.pair_of_lem table index)
      (λ q l. (more.reads_back table q).pair index l ∙ inv ((more'.reads_back table q).pair index l))
      (λ q l. (more.reads_back table q).no_pair index l ∙ inv ((more'.reads_back table q).no_pair index l))

  pub same_writing : (arities : List ℕ) (pairs : List Pair) (output : List ℕ) → P.write_table_lem arities pairs output ≡ Q.write_table_lem arities pairs output
  same_writing arities pairs output =
      same_wrote _ _ _ _ _ _ (file_fixed arities pairs output _ (one.write_table_lem-is arities pairs output) (more.round_trip.read_written arities pairs output))
      (file_fixed arities pairs output _ (one'.write_table_lem-is arities pairs output) (more'.round_trip.read_written arities pairs output))

  pub same_widening : (words output : List ℕ) → P.widen words output ≡ Q.widen words output
  same_widening words output =
      same_wrote _ _ _ _ _ _ (words_fixed words output _ (one.widen words output) (more.widens words output))
      (words_fixed words output _ (one'.widen words output) (more'.widens words output))
