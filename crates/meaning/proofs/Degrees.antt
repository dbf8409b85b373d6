-- The degrees of symbols: what is listed of two symbols, whichever comes first, is found, and nothing else is, because pairs that rise never
-- repeat.
use mathlib.Core.Path.{◌≡◌, refl, ap, ◌∙◌, subst}
use mathlib.Core.Logic.{◌⊎◌, inl, inr}
use mathlib.Core.List.{List, [], ◌∷◌}
use mathlib.Core.Bool.{Bool, true, false, ◌&&◌, ◌||◌, cond}
use Prim.Native.Nat.{ℕ, zero, suc, ◌≤◌, ◌<◌}
use native.Mathlib.Nat.{not-suc-le-zero}
use native.Mathlib.Omega.{arith}
use lib.Dec.{eqb, ltb}
use lib.ListN.{length, get_or}
use borrow.Author.Tests.{lt-ltb, le-ltb, eqb-true, eq-eqb, ne_eqb}
use Rattle.theory.specs.Least.{All}
use Rattle.theory.specs.Table.{Lawful}
use Rattle.theory.specs.Pairs.{Pair, pair, is_pair, listed, SoundPair}
use Rattle.theory.proofs.Lemmas.{all_get_d}
use Rattle.meaning.specs.File.{symbol_count_lem, pair_count_lem, arities_in, pairs_in, table_in}
use Rattle.meaning.specs.Refusals.{row13, first, table_rows, SoundFile}
use Rattle.meaning.specs.Calls.{refused, gives, symbol_rows, symbol_degree_lem}
use Rattle.meaning.specs.Tables.{SymbolDegrees}
use Rattle.meaning.proofs.First.{first-append, unless_gives}
use Rattle.meaning.proofs.Sound.{Passed, passed, length-pairs_in, length-arities_in, sound}
use Rattle.meaning.proofs.Rising.{After, Sorted, sorted}

-- ---- what is listed

-- a pair that stands before is another, in either order
other_pair : (l h l' h' : ℕ) → l < h → l' < h' → (l < l') ⊎ ((l ≡ l') × (h < h')) → is_pair l h l' h' ≡ false
other_pair l h l' h' p q r = go (eqb l' l) refl (eqb h' h) refl (eqb l' h) refl (eqb h' l) refl r
  where
    go : (a : Bool) → eqb l' l ≡ a → (b : Bool) → eqb h' h ≡ b → (c : Bool) → eqb l' h ≡ c → (d : Bool) → eqb h' l ≡ d → (l < l') ⊎ ((l ≡ l') × (h < h'))
        → ((a && b) || (c && d)) ≡ false
    go true e true f c g d k (inl s) = absurd (omega (arith, eqb-true l' l e))
    go true e true f c g d k (inr s) = absurd (omega (arith, s.1, eqb-true h' h f))
    go true e false f true g true k s = absurd (omega (arith, eqb-true l' h g, eqb-true h' l k))
    go true e false f true g false k s = refl
    go true e false f false g d k s = refl
    go false e b f true g true k s = absurd (omega (arith, eqb-true l' h g, eqb-true h' l k))
    go false e b f true g false k s = refl
    go false e b f false g d k s = refl

-- LAW: of sound pairs that rise, the pair at an index has its own degree listed
listed_at : (arities : List ℕ) (ps : List Pair) → All (SoundPair arities) ps → Sorted ps → (k l h d : ℕ) → k < length ps → get_or ps k (pair 0 0 0) ≡ pair l h d → listed ps l h ≡ d
listed_at arities [] s o k l h d m e = absurd (not-suc-le-zero m)
listed_at arities (pair l' h' d' ∷ ps) s o zero l h d m e =
    let a : l ≡ l' = cc in
    let b : h ≡ h' = cc in
    rw (eq-eqb l l' a, eq-eqb h h' b) (cc)
listed_at arities (pair l' h' d' ∷ ps) s o (suc k) l h d m e =
    let q = subst (After (pair l' h' d')) e (all_get_d (After (pair l' h' d')) ps k (pair 0 0 0) (omega arith) o.0) in
    let r = subst (SoundPair arities) e (all_get_d (SoundPair arities) ps k (pair 0 0 0) (omega arith) s.1) in
    rw (other_pair l' h' l h s.0.0 r.0 q) (listed_at arities ps s.1 o.1 k l h d (omega arith) e)

listed-none : (ps : List Pair) (a b : ℕ) → ((k l h d : ℕ) → k < length ps → get_or ps k (pair 0 0 0) ≡ pair l h d → is_pair l h a b ≡ false) → listed ps a b ≡ 0
listed-none [] a b n = refl
listed-none (pair l h d ∷ ps) a b n = rw (n 0 l h d (omega arith) refl) (listed-none ps a b (λ k l h d m e. n (suc k) l h d (omega arith) e))

-- ---- the degrees of symbols in a table that is not refused

module _ (table : List ℕ) (e : SoundFile table) where
  q : Passed table
  q = passed table e

  L : Lawful (table_in table)
  L = (sound table e).lawful

  -- LAW: of two symbols the call answers with the table's degree
  pub gives_degree : (a b d : ℕ) → a < symbol_count_lem table → b < symbol_count_lem table → (table_in table).deg a b ≡ d → symbol_degree_lem table a b ≡ gives d
  unfolding symbol_degree_lem symbol_rows row13
  gives_degree a b d l m k =
      rw (first-append (table_rows table) (row13 (symbol_count_lem table) a b ∷ []) e, lt-ltb a (symbol_count_lem table) l, lt-ltb b (symbol_count_lem table) m) (ap gives k)

  -- .. and a number that is no symbol is refused at its place
  names_first : (a b : ℕ) → symbol_count_lem table ≤ a → symbol_degree_lem table a b ≡ refused 13 0
  unfolding symbol_degree_lem symbol_rows row13
  names_first a b l = rw (first-append (table_rows table) (row13 (symbol_count_lem table) a b ∷ []) e, le-ltb a (symbol_count_lem table) l)

  names_second : (a b : ℕ) → a < symbol_count_lem table → symbol_count_lem table ≤ b → symbol_degree_lem table a b ≡ refused 13 1
  unfolding symbol_degree_lem symbol_rows row13
  names_second a b l m =
      rw (first-append (table_rows table) (row13 (symbol_count_lem table) a b ∷ []) e, lt-ltb a (symbol_count_lem table) l, le-ltb b (symbol_count_lem table) m)

  -- what the call gives is the table's degree
  given_degree : (a b d : ℕ) → symbol_degree_lem table a b ≡ gives d → (table_in table).deg a b ≡ d
  unfolding symbol_degree_lem
  given_degree a b d k = (unless_gives (first (symbol_rows table a b)) ((table_in table).deg a b) d k).1

  pub listed_sound : (k l h d : ℕ) → k < pair_count_lem table → get_or (pairs_in table) k (pair 0 0 0) ≡ pair l h d → SoundPair (arities_in table) (pair l h d)
  listed_sound k l h d m f =
      let n : k < length (pairs_in table) = omega (arith, length-pairs_in table) in
      subst (SoundPair (arities_in table)) f (all_get_d (SoundPair (arities_in table)) (pairs_in table) k (pair 0 0 0) n q.pairs)

  pub degree_listed : (k l h d : ℕ) → k < pair_count_lem table → get_or (pairs_in table) k (pair 0 0 0) ≡ pair l h d → (table_in table).deg l h ≡ d
  unfolding table_in
  degree_listed k l h d m f =
      let n : k < length (pairs_in table) = omega (arith, length-pairs_in table) in
      let s = listed_sound k l h d m f in
      rw (lt-ltb l (length (arities_in table)) (omega (arith, s.0, s.1)), lt-ltb h (length (arities_in table)) s.1, ne_eqb l h (λ z. omega (arith, s.0)))
      (listed_at (arities_in table) (pairs_in table) q.pairs (sorted (pairs_in table) q.ordered) k l h d n f)

  pub degree_others : (a b : ℕ) → (a ≡ b → ⊥) → ((k l h d : ℕ) → k < pair_count_lem table → get_or (pairs_in table) k (pair 0 0 0) ≡ pair l h d → is_pair l h a b ≡ false) → (table_in table).deg a b ≡ 0
  unfolding table_in
  degree_others a b n no_pair =
      rw (ne_eqb a b n, listed-none (pairs_in table) a b (λ k l h d m f. no_pair k l h d (omega (arith, length-pairs_in table)) f)) (both (ltb a (length (arities_in table)) && ltb b (length (arities_in table))))
    where
      both : (t : Bool) → ◌≡◌ {A = ℕ} (cond t 0 0) 0
      both true = refl
      both false = refl

  pub degree_outside : (a b : ℕ) → (symbol_count_lem table ≤ a) ⊎ (symbol_count_lem table ≤ b) → (table_in table).deg a b ≡ 0
  unfolding table_in
  degree_outside a b (inl l) = rw (le-ltb a (length (arities_in table)) (omega (arith, length-arities_in table q)))
  degree_outside a b (inr l) = rw (le-ltb b (length (arities_in table)) (omega (arith, length-arities_in table q))) (zero_of (ltb a (length (arities_in table))))
    where
      zero_of : (t : Bool) → cond (t && false) (cond (eqb a b) 1000 (listed (pairs_in table) a b)) 0 ≡ 0
      zero_of true = refl
      zero_of false = refl

  -- THEOREM
  pub symbol_degrees : SymbolDegrees table (symbol_degree_lem table)
  unfolding table_in
  symbol_degrees =
      record {
        itself = λ a l. gives_degree a a 1000 l l (L.itself a (omega (arith, length-arities_in table q)));
        whole = λ a b k. (sound table e).only_itself a b (given_degree a b 1000 k);
        listed = λ k l h d m f.
            let s = listed_sound k l h d m f in
            let n : h < symbol_count_lem table = omega (arith, s.1, length-arities_in table q) in
            let o : l < symbol_count_lem table = omega (arith, s.0) in
            (gives_degree l h d o n (degree_listed k l h d m f), gives_degree h l d n o (L.either h l ∙ degree_listed k l h d m f));
        others = λ a b l m n f. gives_degree a b 0 l m (degree_others a b n f);
        first-outside = names_first;
        second_outside = names_second;
      }
