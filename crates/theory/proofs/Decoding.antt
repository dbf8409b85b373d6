-- A list that a walk finds whole writes one pattern, or one term, which decoding gives back.
use mathlib.Core.Path.{◌≡◌, refl, sym as inv, ap, ap₂, ◌∙◌, subst}
use mathlib.Core.List.{List, [], ◌∷◌, ◌++◌, append_assoc, append-nil}
use mathlib.Core.Bool.{Bool, true, false, false≢true}
use Prim.Native.Nat.{ℕ, zero, suc, ◌+◌, ◌-◌, ◌≤◌, ◌<◌, max}
use native.Mathlib.Nat.{not-suc-le-zero, zero-add}
use native.Mathlib.Decide.{dec_lt, ℕ_discrete}
use native.Mathlib.Omega.{arith}
use lib.ListN.{length, drop}
use lib.Seq.{drop-length}
use borrow.Author.Tests.{lt-ltb, le-ltb, eq-eqb, ne_eqb}
use Rattle.theory.specs.Tree.{Term, node, Terms, ∅, ◌▹◌, Pattern, var, sym, Patterns, ∅ₚ, ◌▸◌, count, countₚ, enc, encs, encₚ, encsₚ}
use Rattle.theory.specs.Table.{Table, Over, Overs, Overₚ, Oversₚ}
use Rattle.theory.specs.Read.{Walk, ends, fault, walk, whole, faulty, closed, reading, Fine, Fines, depth, depths}
use Rattle.theory.specs.Decode.{Parsed, ParsedRow, headed, fronted, parse, parse_row, pattern_of, term_of, as_pattern, as_patterns, as_term, as_terms}
use Rattle.theory.proofs.Reading.{walk_stands, walk_enc, Stands}

pub faulty≢whole : (j : ℕ) → faulty j ≡ whole → ⊥
faulty≢whole j e = let z : ◌≡◌ {A = ℕ} 0 1 = cc in omega arith

-- LAW: a list that is read whole is not too long
pub not_long : (T : Table) (vars : Bool) (xs : List ℕ) → reading T vars xs ≡ whole → length xs ≤ 1024
not_long T vars xs e = go (dec_lt 1024 (length xs))
  where
    go : Dec (1024 < length xs) → length xs ≤ 1024
    go (yes l) = absurd (faulty≢whole _ (rw (lt-ltb 1024 (length xs) l) at e))
    go (no l) = omega arith

module _ (T : Table) (small : T.size ≤ 32768) (vars : Bool) where
  mutual
    unfolding parse parse_row

    -- LAW: decoding a pattern's list gives the pattern
    pub parse_enc : (p : Pattern) (d : ℕ) → depth p ≤ d → Fine T vars p → (rest : List ℕ) → parse T d (encₚ p ++ rest) ≡ record { pattern = p; rest = rest }
    parse_enc (var v) zero b o rest = absurd (not-suc-le-zero b)
    parse_enc (var v) (suc d) b o rest =
        let e : 32768 + v - 32768 ≡ v = omega arith in
        rw (le-ltb (32768 + v) T.size (omega arith), e)
    parse_enc (sym f ps) zero b o rest = absurd (not-suc-le-zero b)
    parse_enc (sym f ps) (suc d) b o rest =
        rw (lt-ltb f T.size o.0, ← o.1) (ap (headed f) (parse_row_enc ps d (omega arith) o.2 rest))

    parse_row_enc : (ps : Patterns) (d : ℕ) → depths ps ≤ d → Fines T vars ps → (rest : List ℕ)
        → parse_row (parse T d) (countₚ ps) (encsₚ ps ++ rest) ≡ record { row = ps; rest = rest }
    parse_row_enc ∅ₚ d b o rest = refl
    parse_row_enc (p ▸ ps) d b o rest =
        rw (append_assoc (encₚ p) (encsₚ ps) rest, parse_enc p d (omega arith) o.0 (encsₚ ps ++ rest))
        (ap (fronted p) (parse_row_enc ps d (omega arith) o.1 rest))

  pub pattern_of_lem : (p : Pattern) → depth p ≤ 64 → Fine T vars p → pattern_of T (encₚ p) ≡ p
  unfolding pattern_of
  pattern_of_lem p b o = rw (append-nil (encₚ p)) at (ap (λ r. r.pattern) (parse_enc p 64 b o []))

  -- a list that is read whole writes a fine pattern
  pub record Written (xs : List ℕ) : Type 0 where
    pub pattern : Pattern
    pub fine : Fine T vars pattern
    pub deep : depth pattern ≤ 64
    pub is : xs ≡ encₚ pattern

  pub read_whole : (xs : List ℕ) → reading T vars xs ≡ whole → Written xs
  read_whole xs e = end (walk T vars xs 64 0) refl (rw (le-ltb 1024 (length xs) (not_long T vars xs e)) at e)
    where
      close : (j : ℕ) → walk T vars xs 64 0 ≡ ends j → closed (length xs) (ends j) ≡ whole → Dec (j ≡ length xs) → Written xs
      close j w e (no n) = absurd (faulty≢whole _ (rw (ne_eqb j (length xs) n) at e))
      close j w e (yes q) =
          let s = walk_stands T small vars xs 64 0 j w in
          record {
            pattern = s.pattern;
            fine = s.fine;
            deep = s.deep;
            is = s.here ∙ ap (λ k. encₚ s.pattern ++ drop k xs) q ∙ ap (λ l. encₚ s.pattern ++ l) (drop-length xs) ∙ append-nil (encₚ s.pattern);
          }

      end : (w : Walk) → walk T vars xs 64 0 ≡ w → closed (length xs) w ≡ whole → Written xs
      end (ends j) w e = close j w e (ℕ_discrete j (length xs))
      end (fault j) w e = absurd (faulty≢whole j e)

  -- LAW: a list is read whole exactly if it writes a fine pattern
  pub whole_of : (p : Pattern) → Fine T vars p → depth p ≤ 64 → length (encₚ p) ≤ 1024 → reading T vars (encₚ p) ≡ whole
  whole_of p o b n =
      rw (le-ltb 1024 (length (encₚ p)) n, walk_enc T small vars (encₚ p) p 64 b o 0 [] (inv (append-nil (encₚ p))), zero-add (length (encₚ p)), eq-eqb (length (encₚ p)) (length (encₚ p)) refl)

-- ---- terms as patterns

mutual
  pub enc_as : (t : Term) → encₚ (as_pattern t) ≡ enc t
  enc_as (node f ts) = ap (λ l. f ∷ l) (encs_as ts)

  encs_as : (ts : Terms) → encsₚ (as_patterns ts) ≡ encs ts
  encs_as ∅ = refl
  encs_as (t ▹ ts) = ap₂ ◌++◌ (enc_as t) (encs_as ts)

mutual
  pub term_as : (t : Term) → as_term (as_pattern t) ≡ t
  term_as (node f ts) = ap (node f) (terms_as ts)

  terms_as : (ts : Terms) → as_terms (as_patterns ts) ≡ ts
  terms_as ∅ = refl
  terms_as (t ▹ ts) = ap₂ ◌▹◌ (term_as t) (terms_as ts)

pub count_as : (ts : Terms) → countₚ (as_patterns ts) ≡ count ts
count_as ∅ = refl
count_as (t ▹ ts) = ap suc (count_as ts)

pub count_as_terms : (ps : Patterns) → count (as_terms ps) ≡ countₚ ps
count_as_terms ∅ₚ = refl
count_as_terms (p ▸ ps) = ap suc (count_as_terms ps)

module _ (T : Table) where
  mutual
    pub over_as : (vars : Bool) (t : Term) → Over T t → Fine T vars (as_pattern t)
    over_as vars (node f ts) o = (o.0, count_as ts ∙ o.1, overs_as vars ts o.2)

    overs_as : (vars : Bool) (ts : Terms) → Overs T ts → Fines T vars (as_patterns ts)
    overs_as vars ∅ o = tt
    overs_as vars (t ▹ ts) o = (over_as vars t o.0, overs_as vars ts o.1)

  -- a pattern without variables is a term
  mutual
    pub ground : (p : Pattern) → Fine T false p → Over T (as_term p) × (as_pattern (as_term p) ≡ p)
    ground (var v) o = absurd (false≢true o.0)
    ground (sym f ps) o = let r = grounds ps o.2 in ((o.0, count_as_terms ps ∙ o.1, r.0), ap (sym f) r.1)

    grounds : (ps : Patterns) → Fines T false ps → Overs T (as_terms ps) × (as_patterns (as_terms ps) ≡ ps)
    grounds ∅ₚ o = (tt, refl)
    grounds (p ▸ ps) o = let a = ground p o.0 in let b = grounds ps o.1 in ((a.0, b.0), ap₂ ◌▸◌ a.1 b.1)

  mutual
    pub fine_over : (vars : Bool) (p : Pattern) → Fine T vars p → Overₚ T p
    fine_over vars (var v) o = tt
    fine_over vars (sym f ps) o = (o.0, o.1, fines_over vars ps o.2)

    fines_over : (vars : Bool) (ps : Patterns) → Fines T vars ps → Oversₚ T ps
    fines_over vars ∅ₚ o = tt
    fines_over vars (p ▸ ps) o = (fine_over vars p o.0, fines_over vars ps o.1)

  -- LAW: a heading's list, read whole, writes the term that decoding gives
  pub heading_of_lem : T.size ≤ 32768 → (xs : List ℕ) → reading T false xs ≡ whole → Over T (term_of T xs) × (xs ≡ enc (term_of T xs))
  unfolding term_of
  heading_of_lem small xs e =
      let w = read_whole T small false xs e in
      let g = ground w.pattern w.fine in
      let d : pattern_of T xs ≡ w.pattern = ap (pattern_of T) w.is ∙ pattern_of_lem T small false w.pattern w.deep w.fine in
      rw d (g.0, w.is ∙ inv (ap encₚ g.1) ∙ enc_as (as_term w.pattern))

  -- LAW: a pattern's list, read whole, writes the pattern that decoding gives
  pub pattern_is : T.size ≤ 32768 → (xs : List ℕ) → reading T true xs ≡ whole → Fine T true (pattern_of T xs) × (xs ≡ encₚ (pattern_of T xs))
  pattern_is small xs e =
      let w = read_whole T small true xs e in
      let d : pattern_of T xs ≡ w.pattern = ap (pattern_of T) w.is ∙ pattern_of_lem T small true w.pattern w.deep w.fine in
      rw d (w.fine, w.is)

  pub heading_deep : T.size ≤ 32768 → (xs : List ℕ) → reading T false xs ≡ whole → depth (as_pattern (term_of T xs)) ≤ 64
  unfolding term_of
  heading_deep small xs e =
      let w = read_whole T small false xs e in
      let g = ground w.pattern w.fine in
      let d : pattern_of T xs ≡ w.pattern = ap (pattern_of T) w.is ∙ pattern_of_lem T small false w.pattern w.deep w.fine in
      rw (d, g.1) w.deep
