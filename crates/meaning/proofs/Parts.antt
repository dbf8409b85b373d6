-- Terms and their parts: a list is read whole exactly if it writes a tree within the limits, a subterm's list stands in its term's from its
-- index on, so a walk from there ends where it does, and the nearer is chosen by the trees' degrees.
use mathlib.Core.Path.{◌≡◌, refl, sym as inv, ap, ◌∙◌, subst}
use mathlib.Core.Logic.{◌↔◌}
use mathlib.Core.List.{List, [], ◌∷◌, ◌++◌, append_assoc, append-nil}
use mathlib.Core.Bool.{Bool, true, false, cond}
use mathlib.Core.Option.{Option, none, some as just, some-ne-none}
use Prim.Native.Nat.{ℕ, zero, suc, ◌+◌, ◌-◌, ◌≤◌, ◌<◌, max}
use native.Mathlib.Nat.{not-suc-le-zero}
use native.Mathlib.Decide.{dec_lt}
use native.Mathlib.Omega.{arith}
use lib.Dec.{ltb}
use lib.Seq.{drop-append-le, drop-append-add, take_at}
use lib.ListN.{length, take, drop, length-append}
use borrow.Author.Tests.{lt-ltb, le-ltb}
use Rattle.theory.specs.Tree.{Pattern, var, sym, Patterns, ∅ₚ, ◌▸◌, encₚ, encsₚ}
use Rattle.theory.specs.Table.{Table, degree}
use Rattle.theory.specs.Read.{ends, walk, Reading, whole, faulty, reading, Fine, Fines, depth, depths}
use Rattle.theory.specs.Decode.{pattern_of, term_of}
use Rattle.theory.proofs.Reading.{walk_enc}
use Rattle.theory.proofs.Decoding.{not_long, read_whole, whole_of}
use Rattle.meaning.specs.File.{table_in}
use Rattle.meaning.specs.Refusals.{Refusal, refusal, Row, row, first, fault_of, Given, row6, row7, table_rows, SoundFile}
use Rattle.meaning.specs.Calls.{part, part_to, unless_part, subterm_rows, subterm, the_first, the_second_lem, neither, unless_nearer, nearer_rows, nearer}
use Rattle.meaning.specs.Demands.{WritesPattern, Only}
use Rattle.meaning.specs.Parts.{IsTerm, TermLists, subterm_at, subterm_in, SubtermIs, Subterms, NearerIs, Nearest}
use Rattle.meaning.proofs.First.{first_given, given_first, all_silent, append-none}
use Rattle.meaning.proofs.Sound.{sound}
use Rattle.meaning.proofs.Trees.{whole6, whole7, one_pattern, one_term}

-- ---- a subterm's list stands in its pattern's, from its index on

module _ (T : Table) (vars : Bool) where
  -- the subterm q at an index, and what follows it
  pub record Sub (o : Option Pattern) (d : ℕ) (list : List ℕ) : Type 0 where
    pub q : Pattern
    pub is : o ≡ just q
    pub fine : Fine T vars q
    pub deep : depth q ≤ d
    pub rest : List ℕ
    pub here : list ≡ encₚ q ++ rest

  -- more of a list after it, and a greater depth
  more : (o : Option Pattern) (d e : ℕ) (list after : List ℕ) → d ≤ e → Sub o d list → Sub o e (list ++ after)
  more o d e list after l s =
      record {
        q = s.q;
        is = s.is;
        fine = s.fine;
        deep = omega (arith, s.deep);
        rest = s.rest ++ after;
        here = ap (λ l. l ++ after) s.here ∙ append_assoc (encₚ s.q) s.rest after;
      }

  mutual
    pub sub_at : (p : Pattern) → Fine T vars p → (i : ℕ) → i < length (encₚ p) → Sub (subterm_at p i) (depth p) (drop i (encₚ p))
    sub_at (var v) o zero l = record { q = var v; is = refl; fine = o; deep = omega arith; rest = []; here = refl }
    sub_at (var v) o (suc i) l = absurd (omega arith)
    sub_at (sym f ps) o zero l = record { q = sym f ps; is = refl; fine = o; deep = omega arith; rest = []; here = inv (append-nil (encₚ (sym f ps))) }
    sub_at (sym f ps) o (suc i) l =
        let s = sub_in ps o.2 i (omega arith) in
        record { q = s.q; is = s.is; fine = s.fine; deep = omega (arith, s.deep); rest = s.rest; here = s.here }

    sub_in : (ps : Patterns) → Fines T vars ps → (i : ℕ) → i < length (encsₚ ps) → Sub (subterm_in ps i) (depths ps) (drop i (encsₚ ps))
    sub_in ∅ₚ o i l = absurd (not-suc-le-zero l)
    sub_in (p ▸ ps) o i l = go (dec_lt i (length (encₚ p))) (λ l. sub_at p o.0 i l) (λ j l. sub_in ps o.1 j l)
      where
        go : Dec (i < length (encₚ p)) → (i < length (encₚ p) → Sub (subterm_at p i) (depth p) (drop i (encₚ p)))
            → ((j : ℕ) → j < length (encsₚ ps) → Sub (subterm_in ps j) (depths ps) (drop j (encsₚ ps)))
            → Sub (cond (ltb i (length (encₚ p))) (subterm_at p i) (subterm_in ps (i - length (encₚ p)))) (max (depth p) (depths ps)) (drop i (encₚ p ++ encsₚ ps))
        go (yes m) one rest =
            rw (lt-ltb i (length (encₚ p)) m, drop-append-le i (encₚ p) (encsₚ ps) (omega arith))
            (more (subterm_at p i) (depth p) (max (depth p) (depths ps)) (drop i (encₚ p)) (encsₚ ps) (omega arith) (one m))
        go (no m) one rest =
            let j = i - length (encₚ p) in
            let n : j < length (encsₚ ps) = omega (arith, length-append (encₚ p) (encsₚ ps)) in
            let s = rest j n in
            let e : i ≡ length (encₚ p) + j = omega arith in
            rw (le-ltb i (length (encₚ p)) (omega arith))
            (record {
              q = s.q;
              is = s.is;
              fine = s.fine;
              deep = omega (arith, s.deep);
              rest = s.rest;
              here = ap (λ k. drop k (encₚ p ++ encsₚ ps)) e ∙ drop-append-add (encₚ p) (encsₚ ps) j ∙ s.here;
            })

-- ---- which lists are terms

-- LAW: a list is read whole exactly if it writes a pattern that is neither too long nor too deep
pub is_term_lem : (T : Table) → T.size ≤ 32768 → (vars : Bool) (list : List ℕ) → reading T vars list ≡ whole ↔ ((p : Pattern) × IsTerm T vars list p)
is_term_lem T small vars list = (there, back)
  where
    there : reading T vars list ≡ whole → (p : Pattern) × IsTerm T vars list p
    there e =
        let w = read_whole T small vars list e in
        (w.pattern, record { fine = w.fine; depth_at_most = w.deep; nodes_at_most = not_long T vars list e; is = w.is })

    back : (p : Pattern) × IsTerm T vars list p → reading T vars list ≡ whole
    back r = let t = r.1 in rw t.is (whole_of T small vars r.0 t.fine t.depth_at_most (omega (arith, ap length t.is, t.nodes_at_most)))

read_first : (n : ℕ) (r : Reading) → first (row n (fault_of r) ∷ []) ≡ none ↔ (r ≡ whole)
read_first n whole = ((λ e. refl), (λ e. refl))
read_first n (faulty i) = ((λ e. absurd (some-ne-none _ e)), (λ e. let z : ◌≡◌ {A = ℕ} 0 1 = cc in absurd (omega arith)))

-- THEOREM: refusals 6 and 7, of a table that is not refused
pub terms : (table : List ℕ) → SoundFile table → TermLists table
unfolding row6 row7
terms table e =
    let T = table_in table in
    let small : T.size ≤ 32768 = omega (arith, (sound table e).small) in
    record {
      six = λ vars list. both (read_first 6 (reading T vars list)) (is_term_lem T small vars list);
      seven = λ list. both (read_first 7 (reading T false list)) (is_term_lem T small false list);
    }
  where
    both : {A B C : Type 0} → A ↔ B → B ↔ C → A ↔ C
    both f g = ((λ a. g.0 (f.0 a)), (λ c. f.1 (g.1 c)))

-- ---- the subterm

subterm-found : (table term : List ℕ) (i : ℕ) → first (subterm_rows table term) ≡ none → i < length term → SubtermIs table term i (subterm table term i)
unfolding subterm subterm_rows
subterm-found table term i e l =
    record {
      p = pattern_of T term;
      q = s.q;
      writes_term = w;
      subterm_is = s.is;
      handed_back = rw (e, lt-ltb i (length term) l, walked) (ap (part i) back);
      holds_it = ap (take (length (encₚ s.q))) here ∙ take_at (encₚ s.q) s.rest (length (encₚ s.q)) refl;
    }
  where
    T : Table
    T = table_in table

    rows : (SoundFile table) × (first (row6 T true term ∷ []) ≡ none)
    rows = append-none (table_rows table) (row6 T true term ∷ []) e

    small : T.size ≤ 32768
    small = omega (arith, (sound table rows.0).small)

    read : reading T true term ≡ whole
    read = whole6 T true term (all_silent (row6 T true term ∷ []) rows.1).0

    w : Only (WritesPattern T term) (pattern_of T term)
    w = one_pattern T small term read

    deep : depth (pattern_of T term) ≤ 64
    deep = let x = read_whole T small true term read in subst (λ p. depth p ≤ 64) (w.only x.pattern (record { fine = x.fine; is = x.is })) x.deep

    s : Sub T true (subterm_at (pattern_of T term) i) (depth (pattern_of T term)) (drop i (encₚ (pattern_of T term)))
    s = sub_at T true (pattern_of T term) w.holds.fine i (omega (arith, ap length w.holds.is))

    here : drop i term ≡ encₚ s.q ++ s.rest
    here = ap (drop i) w.holds.is ∙ s.here

    walked : walk T true term 64 i ≡ ends (i + length (encₚ s.q))
    walked = walk_enc T small true term s.q 64 (omega (arith, s.deep, deep)) s.fine i s.rest here

    back : i + length (encₚ s.q) - i ≡ length (encₚ s.q)
    back = omega arith

-- THEOREM: subterms
pub subterms : Subterms subterm
unfolding subterm
subterms =
    record {
      found = subterm-found;
      refused_part = λ table term i n place g. ap (λ o. unless_part o (cond (ltb i (length term)) (part_to i (walk (table_in table) true term 64 i)) (part 0 0))) (given_first (subterm_rows table term) n place g);
      outside_part = λ table term i l. rw (le-ltb i (length term) l) (empty (first (subterm_rows table term)));
    }
  where
    empty : (o : Option Refusal) → unless_part o (part 0 0) ≡ part 0 0
    empty none = refl
    empty (just r) = refl

-- ---- the nearer

chosen : (a b : ℕ) → (cond (ltb a b) the_second_lem the_first ≡ the_first ↔ (b ≤ a)) × (cond (ltb a b) the_second_lem the_first ≡ the_second_lem ↔ (a < b))
chosen a b = go (dec_lt a b)
  where
    go : Dec (a < b) → (cond (ltb a b) the_second_lem the_first ≡ the_first ↔ (b ≤ a)) × (cond (ltb a b) the_second_lem the_first ≡ the_second_lem ↔ (a < b))
    go (yes l) = rw (lt-ltb a b l) (((λ e. let z : ◌≡◌ {A = ℕ} 0 1 = cc in absurd (omega arith)), (λ m. absurd (omega arith))), ((λ e. l), (λ m. refl)))
    go (no l) = rw (le-ltb a b (omega arith)) (((λ e. omega arith), (λ m. refl)), ((λ e. let z : ◌≡◌ {A = ℕ} 0 1 = cc in absurd (omega arith)), (λ m. absurd (omega arith))))

nearer-found : (table heading one two : List ℕ) → first (nearer_rows table heading one two) ≡ none → NearerIs table heading one two (nearer table heading one two)
unfolding nearer nearer_rows
nearer-found table heading one two e =
    let T = table_in table in
    let rest = row7 T heading ∷ row7 T one ∷ row7 T two ∷ [] in
    let r = append-none (table_rows table) rest e in
    let s = all_silent rest r.1 in
    let small : T.size ≤ 32768 = omega (arith, (sound table r.0).small) in
    let c = chosen (degree T (term_of T heading) (term_of T one)) (degree T (term_of T heading) (term_of T two)) in
    record {
      h = term_of T heading;
      t = term_of T one;
      u = term_of T two;
      writes_heading = one_term T small heading (whole7 T heading s.0);
      writes_one = one_term T small one (whole7 T one s.1.0);
      writes_two = one_term T small two (whole7 T two s.1.1.0);
      first_one = rw e c.0;
      second_one = rw e c.1;
    }

which : (b : Bool) → cond b the_second_lem the_first ≡ neither → ⊥
which true e = let z : ◌≡◌ {A = ℕ} 0 1 = cc in omega arith
which false e = let z : ◌≡◌ {A = ℕ} 0 1 = cc in omega arith

-- THEOREM: the nearer
pub nearest : Nearest nearer
unfolding nearer
nearest =
    record {
      found = nearer-found;
      neither_if = λ table heading one two.
          let T = table_in table in
          let b = ltb (degree T (term_of T heading) (term_of T one)) (degree T (term_of T heading) (term_of T two)) in
          ((λ e. refused_by (nearer_rows table heading one two) b (first (nearer_rows table heading one two)) refl e), (λ g. ap (λ o. unless_nearer o (cond b the_second_lem the_first)) (given_first (nearer_rows table heading one two) g.0 g.1 g.2)));
    }
  where
    refused_by : (rows : List Row) (b : Bool) (o : Option Refusal) → first rows ≡ o → unless_nearer o (cond b the_second_lem the_first) ≡ neither → (n : ℕ) × (place : ℕ) × Given rows n place
    refused_by rows b none q e = absurd (which b e)
    refused_by rows b (just (refusal n place)) q e = (n, place, first_given rows n place q)
