-- At cut 1000 near is equal: where only a symbol with itself has degree 1000, two terms have it only if they are one term, since each symbol of the one
-- has it with the symbol that faces it in the other. So a matcher makes the pattern the heading, and a pattern without variables clashes where its list
-- first differs from the heading's.
use mathlib.Core.Path.{◌≡◌, refl, sym as inv, ap, ap₂, ◌∙◌, subst}
use mathlib.Core.Logic.{◌↔◌}
use mathlib.Core.List.{List, [], ◌∷◌, ◌++◌, append_assoc, append-nil}
use mathlib.Core.Bool.{Bool, true, false, ◌||◌, false≢true}
use Prim.Native.Nat.{ℕ, zero, suc, ◌≤◌, ◌<◌}
use native.Mathlib.Nat.{not-suc-le-zero}
use native.Mathlib.Omega.{arith}
use borrow.Author.Tests.{eqb-true, eq-eqb}
use Rattle.theory.specs.Tree.{Term, node, Terms, ∅, ◌▹◌, Pattern, var, sym, Patterns, ∅ₚ, ◌▸◌, count, countₚ, enc, encs, encₚ, encsₚ, fill, fills, stands, stands_in}
use Rattle.theory.specs.Table.{Table, Lawful, OnlyItself, Over, Overs, Overₚ, Oversₚ, degree, degrees, Matcher}
use Rattle.theory.specs.Least.{All}
use Rattle.theory.specs.Faces.{Face, meets, faces, faces_of}
use Rattle.theory.specs.Match.{ClashAt, FirstUnlike}
use Rattle.theory.proofs.Lemmas.{all_left, all_right, both_false}
use Rattle.theory.proofs.Flat.{degree_min}
use Rattle.theory.proofs.More.{degree_itself, meets_left, meets_right}

-- ---- matchers

either : {A : Type 0} (a b : Bool) → (a ≡ true → A) → (b ≡ true → A) → (a || b) ≡ true → A
either true b f g e = f refl
either false b f g e = g e

-- what fills a variable is part of the filled pattern
module _ (T : Table) (σ : ℕ → Term) (v : ℕ) where
  mutual
    fill_over : (p : Pattern) → Over T (fill σ p) → stands v p ≡ true → Over T (σ v)
    fill_over (var w) o s = subst (λ x. Over T (σ x)) (inv (eqb-true v w s)) o
    fill_over (sym f ps) o s = fills_over ps o.2 s

    fills_over : (ps : Patterns) → Overs T (fills σ ps) → stands_in v ps ≡ true → Over T (σ v)
    fills_over ∅ₚ o s = absurd (false≢true s)
    fills_over (p ▸ ps) o s = either (stands v p) (stands_in v ps) (λ e. fill_over p o.0 e) (λ e. fills_over ps o.1 e) s

module _ (T : Table) (L : Lawful T) (own : OnlyItself T) where
  mutual
    unfolding degrees

    -- LAW: two terms of degree 1000 are one
    pub degree_identity : (t u : Term) → 1000 ≤ degree T t u → t ≡ u
    degree_identity (node f ts) (node g us) r =
        let m = degree_min T L f g ts us in
        ap₂ node (own f g (omega (arith, m, L.top f g))) (degrees_identity ts us (omega (arith, m)))

    degrees_identity : (ts us : Terms) → 1000 ≤ degrees T ts us → ts ≡ us
    degrees_identity ∅ ∅ r = refl
    degrees_identity ∅ (u ▹ us) r = absurd (omega arith)
    degrees_identity (t ▹ ts) ∅ r = absurd (omega arith)
    degrees_identity (t ▹ ts) (u ▹ us) r = ap₂ ◌▹◌ (degree_identity t u (omega arith)) (degrees_identity ts us (omega arith))

  -- LAW: the matchers at cut 1000 are what makes the pattern the heading itself
  pub matcher_identity : (p : Pattern) (h : Term) → Over T h → (σ : ℕ → Term) → Matcher T 1000 p h σ ↔ (fill σ p ≡ h)
  matcher_identity p h oh σ = ((λ m. degree_identity (fill σ p) h m.reaches), back)
    where
      back : fill σ p ≡ h → Matcher T 1000 p h σ
      back e =
          record {
            over = λ v s. fill_over T σ v p (subst (Over T) (inv e) oh) s;
            reaches = rw e (omega (arith, degree_itself T L h oh));
          }

-- ---- patterns without variables

abbrev pub Ground : Pattern → Type 0
Ground p = (v : ℕ) → stands v p ≡ false

abbrev Grounds : Patterns → Type 0
Grounds ps = (v : ℕ) → stands_in v ps ≡ false

no_variable : (v : ℕ) → Ground (var v) → ⊥
no_variable v n = false≢true (inv (n v) ∙ eq-eqb v v refl)

ground_first : (p : Pattern) (ps : Patterns) → Grounds (p ▸ ps) → Ground p
ground_first p ps n v = (both_false (stands v p) (stands_in v ps) (n v)).0

ground_rest : (p : Pattern) (ps : Patterns) → Grounds (p ▸ ps) → Grounds ps
ground_rest p ps n v = (both_false (stands v p) (stands_in v ps) (n v)).1

mutual
  -- LAW: however it is filled, such a pattern is written as it was
  pub enc_ground : (σ : ℕ → Term) (p : Pattern) → Ground p → enc (fill σ p) ≡ encₚ p
  enc_ground σ (var v) n = absurd (no_variable v n)
  enc_ground σ (sym f ps) n = ap (λ l. f ∷ l) (encs_ground σ ps n)

  encs_ground : (σ : ℕ → Term) (ps : Patterns) → Grounds ps → encs (fills σ ps) ≡ encsₚ ps
  encs_ground σ ∅ₚ n = refl
  encs_ground σ (p ▸ ps) n = ap₂ ◌++◌ (enc_ground σ p (ground_first p ps n)) (encs_ground σ ps (ground_rest p ps n))

mutual
  -- LAW: a pattern whose nodes are symbols' has no variable
  pub all_symbols : (p : Pattern) → All (λ x. x < 32768) (encₚ p) → Ground p
  all_symbols (var w) a v = absurd (omega (arith, a.0))
  all_symbols (sym f ps) a v = all_symbols_row ps a.1 v

  all_symbols_row : (ps : Patterns) → All (λ x. x < 32768) (encsₚ ps) → Grounds ps
  all_symbols_row ∅ₚ a v = refl
  all_symbols_row (p ▸ ps) a v =
      rw (all_symbols p (all_left (λ x. x < 32768) (encₚ p) (encsₚ ps) a) v)
      (all_symbols_row ps (all_right (λ x. x < 32768) (encₚ p) (encsₚ ps) a) v)

-- ---- where a pattern without variables clashes

module _ (T : Table) (L : Lawful T) (own : OnlyItself T) where
  -- a clash at i among the faces is where the lists first differ
  abbrev Differs : List Face → List ℕ → List ℕ → Type 0
  Differs fs xs ys = (i : ℕ) → ClashAt T 1000 fs i → FirstUnlike xs ys i

  -- a node more in front of each
  differs_symbol : (f g : ℕ) → f < T.size → (fs : List Face) (xs ys : List ℕ) → (f ≡ g → Differs fs xs ys) → Differs (meets f g ∷ fs) (f ∷ xs) (g ∷ ys)
  differs_symbol f g o fs xs ys rest zero c = record { in_one = omega arith; in_other = omega arith; before = refl; unlike = apart }
    where
      apart : f ≡ g → ⊥
      apart e =
          let m : meets f f ≡ meets c.pattern c.heading = ap (meets f) e ∙ c.here in
          let q = meets_left f f c.pattern c.heading m in
          let r = meets_right f f c.pattern c.heading m in
          let d : T.deg c.pattern c.heading ≡ 1000 = ap₂ T.deg (inv q) (inv r) ∙ L.itself f o in
          omega (arith, c.below)
  differs_symbol f g o fs xs ys rest (suc i) c =
      let same : f ≡ g = own f g (omega (arith, c.first 0 f g (omega arith) refl, L.top f g)) in
      let q = rest same i (record { pattern = c.pattern; heading = c.heading; inside = omega (arith, c.inside); here = c.here; below = c.below; first = λ k a b l e. c.first (suc k) a b (omega arith) e }) in
      record { in_one = omega (arith, q.in_one); in_other = omega (arith, q.in_other); before = ap₂ ◌∷◌ same q.before; unlike = q.unlike }

  mutual
    differs : (p : Pattern) (h : Term) → Ground p → Overₚ T p → Over T h → (fs : List Face) (xs ys : List ℕ) → Differs fs xs ys
        → Differs (faces p h ++ fs) (encₚ p ++ xs) (enc h ++ ys)
    differs (var v) h n op oh fs xs ys q = absurd (no_variable v n)
    differs (sym f ps) (node g ts) n op oh fs xs ys q =
        differs_symbol f g op.0 (faces_of ps ts ++ fs) (encsₚ ps ++ xs) (encs ts ++ ys)
        (λ e. differs_row ps ts (op.1 ∙ ap T.arity e ∙ inv oh.1) n op.2 oh.2 fs xs ys q)

    differs_row : (ps : Patterns) (ts : Terms) → countₚ ps ≡ count ts → Grounds ps → Oversₚ T ps → Overs T ts → (fs : List Face) (xs ys : List ℕ) → Differs fs xs ys
        → Differs (faces_of ps ts ++ fs) (encsₚ ps ++ xs) (encs ts ++ ys)
    differs_row ∅ₚ ∅ c n op oh fs xs ys q = q
    differs_row ∅ₚ (t ▹ ts) c n op oh fs xs ys q = absurd (omega arith)
    differs_row (p ▸ ps) ∅ c n op oh fs xs ys q = absurd (omega arith)
    differs_row (p ▸ ps) (t ▹ ts) c n op oh fs xs ys q =
        rw (append_assoc (faces p t) (faces_of ps ts) fs, append_assoc (encₚ p) (encsₚ ps) xs, append_assoc (enc t) (encs ts) ys)
        (differs p t (ground_first p ps n) op.0 oh.0 (faces_of ps ts ++ fs) (encsₚ ps ++ xs) (encs ts ++ ys)
        (differs_row ps ts (omega arith) (ground_rest p ps n) op.1 oh.1 fs xs ys q))

  -- LAW: a clash at cut 1000 is where the two lists first differ
  pub first_unlike : (p : Pattern) (h : Term) → Ground p → Overₚ T p → Over T h → (i : ℕ) → ClashAt T 1000 (faces p h) i → FirstUnlike (encₚ p) (enc h) i
  first_unlike p h n op oh =
      let r : Differs (faces p h ++ []) (encₚ p ++ []) (enc h ++ []) = differs p h n op oh [] [] [] (λ i c. absurd (not-suc-le-zero c.inside)) in
      rw (append-nil (faces p h), append-nil (encₚ p), append-nil (enc h)) at r
