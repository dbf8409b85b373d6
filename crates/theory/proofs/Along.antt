-- A loop along the pattern's list and the heading's, node by node. The faces that it has passed, with those of what is left of both
-- lists, are all of the faces: a row of patterns and a row of terms as long are left, and each step takes the first of both.
use mathlib.Core.Path.{◌≡◌, refl, sym as inv, ap, ◌∙◌}
use mathlib.Core.List.{List, [], ◌∷◌, ◌++◌, append_assoc, append-nil, nil≢cons, cons-ne-nil}
use mathlib.Core.Bool.{Bool, true, false}
use mathlib.Core.Option.{none, some as just}
use Prim.Native.Nat.{ℕ, ◌+◌, ◌-◌, ◌≤◌, ◌<◌, max}
use native.Mathlib.Nat.{not-suc-le-zero}
use native.Mathlib.Decide.{dec_lt}
use native.Mathlib.Omega.{arith}
use borrow.Author.Tests.{lt-ltb, le-ltb}
use lib.ListN.{length, get_or, take, drop, length-append, length-drop, drop_of_length-le, get_or-append}
use lib.Seq.{drop-cons, take-append_seam, take_at, get_or_at}
use Rattle.theory.specs.Tree.{Term, node, Terms, ∅, ◌▹◌, var, sym, Patterns, ∅ₚ, ◌▸◌, count, countₚ, enc, encs, encₚ, encsₚ}
use Rattle.theory.specs.Table.{Table, Lawful, Over, Overs}
use Rattle.theory.specs.Faces.{Face, meets, binds, faces, faces_of, node_of}
use Rattle.theory.specs.Least.{All}
use Rattle.theory.specs.Match.{clash, size}
use Rattle.theory.specs.Read.{ends, walk, Fines, depths, reading, whole}
use Rattle.theory.specs.Decode.{pattern_of, term_of, as_pattern, as_patterns}
use Rattle.theory.proofs.Matchers.{Clear, clear_none, none_clear}
use Rattle.theory.proofs.Lemmas.{all_append}
use Rattle.theory.proofs.Rows.{◌⊕◌, ◌⊕ₚ◌, count_join, countₚ_join, encs_join, encsₚ_join, pass_symbol, one_row}
use Rattle.theory.proofs.Reading.{drop_head, drop_part, walk_enc}
use Rattle.theory.proofs.Decoding.{enc_as, over_as, pattern_is, heading_of_lem, heading_deep}

-- ---- clashes, as faces are passed

module _ (T : Table) (c : ℕ) where
  -- LAW: behind faces that do not clash, symbols below the cut clash
  pub clash_next : (xs : List Face) (f g : ℕ) (ys : List Face) → clash T c xs ≡ none → T.deg f g < c → clash T c (xs ++ (meets f g ∷ ys)) ≡ just (length xs)
  clash_next xs f g ys e l = go xs (none_clear T c xs e)
    where
      go : (xs : List Face) → All (Clear T c) xs → clash T c (xs ++ (meets f g ∷ ys)) ≡ just (length xs)
      go [] a = rw (lt-ltb (T.deg f g) c l)
      go (meets f' g' ∷ xs) a = rw (le-ltb (T.deg f' g') c a.0, go xs a.1)
      go (binds v t ∷ xs) a = rw (go xs a.1)

  -- LAW: and one more that does not clash leaves them so
  pub clear_next : (xs : List Face) (x : Face) → clash T c xs ≡ none → Clear T c x → clash T c (xs ++ (x ∷ [])) ≡ none
  clear_next xs x e l = clear_none T c (xs ++ (x ∷ [])) (all_append (Clear T c) xs (x ∷ []) (none_clear T c xs e) (l, tt))

-- ---- rows end to end

depths_join : (ts us : Terms) → depths (as_patterns (ts ⊕ us)) ≡ max (depths (as_patterns ts)) (depths (as_patterns us))
depths_join ∅ us = omega arith
depths_join (t ▹ ts) us = omega (arith, depths_join ts us)

module _ (T : Table) where
  fines_join : (ps qs : Patterns) → Fines T true ps → Fines T true qs → Fines T true (ps ⊕ₚ qs)
  fines_join ∅ₚ qs a b = b
  fines_join (p ▸ ps) qs a b = (a.0, fines_join ps qs a.1 b)

  overs_join : (ts us : Terms) → Overs T ts → Overs T us → Overs T (ts ⊕ us)
  overs_join ∅ us a b = b
  overs_join (t ▹ ts) us a b = (a.0, overs_join ts us a.1 b)

pub size_positive : (t : Term) → 0 < size t
size_positive (node f ts) = omega arith

-- ---- where the loop stands

-- what is known before the loop: a lawful table, a pattern's list and a heading's
pub record Readable (T : Table) (xs ys : List ℕ) : Type 0 where
  pub lawful : Lawful T
  pub small : T.size ≤ 32768
  pub pattern_reads : reading T true xs ≡ whole
  pub heading_reads : reading T false ys ≡ whole

-- what faces what in the two lists
abbrev pub all_faces : Table → List ℕ → List ℕ → List Face
all_faces T xs ys = faces (pattern_of T xs) (term_of T ys)

-- the number of the variable at index i of the pattern's list
abbrev pub variable_at : List ℕ → ℕ → ℕ
variable_at xs i = get_or xs i 0 - 32768

-- a face's symbols are the table's, its variable is one that may stand, and its subterm is over the table
abbrev pub Known : Table → Face → Type 0
Known T (meets f g) = (f < T.size) × (g < T.size)
Known T (binds v t) = (v < 32) × Over T t

-- these are the faces of the first n nodes of the pattern's list
pub record Faced (T : Table) (xs : List ℕ) (fs : List Face) (n : ℕ) : Type 0 where
  pub small : T.size ≤ 32768
  pub many : length fs ≡ n
  pub nodes : (k : ℕ) → k < n → node_of (get_or fs k (meets 0 0)) ≡ get_or xs k 0
  pub known : All (Known T) fs

module _ (T : Table) (xs ys : List ℕ) where
  -- what is left from index i of the pattern's list and from index j of the heading's
  pub record Left (i j : ℕ) (patterns : Patterns) (terms : Terms) : Type 0 where
    pub fine : Fines T true patterns
    pub over : Overs T terms
    pub shallow : depths (as_patterns terms) ≤ 64
    pub alike : countₚ patterns ≡ count terms
    pub pattern_left : drop i xs ≡ encsₚ patterns
    pub heading_left : drop j ys ≡ encs terms

  -- the loop has passed these faces, and stands at index i of the pattern's list and at index j of the heading's
  pub record Along (done : List Face) (i j : ℕ) : Type 0 where
    pub patterns : Patterns
    pub terms : Terms
    pub left : Left i j patterns terms
    pub all : all_faces T xs ys ≡ done ++ faces_of patterns terms
    pub passed : Faced T xs done i
    pub in_pattern : i ≤ length xs
    pub in_heading : j ≤ length ys

  -- a symbol faces a symbol
  pub record AtSymbol (done : List Face) (i j : ℕ) : Type 0 where
    pub inside : j < length ys
    pub symbol : get_or ys j 0 < T.size
    pub rest : List Face
    pub next : all_faces T xs ys ≡ done ++ (meets (get_or xs i 0) (get_or ys j 0) ∷ rest)
    pub on : 0 < T.deg (get_or xs i 0) (get_or ys j 0) → Along (done ++ (meets (get_or xs i 0) (get_or ys j 0) ∷ [])) (i + 1) (j + 1)

  -- a variable faces a subterm
  pub record AtVariable (done : List Face) (i j : ℕ) : Type 0 where
    pub subterm : Term
    pub over : Over T subterm
    pub variable : get_or xs i 0 ≡ 32768 + variable_at xs i
    pub below : variable_at xs i < 32
    pub some : 0 < size subterm
    pub inside : j + size subterm ≤ length ys
    pub here : take (size subterm) (drop j ys) ≡ enc subterm
    pub ends_there : (vars : Bool) (d : ℕ) → 64 ≤ d → walk T vars ys d j ≡ ends (j + size subterm)
    pub on : Along (done ++ (binds (variable_at xs i) subterm ∷ [])) (i + 1) (j + size subterm)

module _ {T : Table} {xs ys : List ℕ} where
  -- LAW: the faces passed are the first ones
  pub along_passed : {done : List Face} {i j : ℕ} → Along T xs ys done i j → done ≡ take i (all_faces T xs ys)
  along_passed {done} {i} a = inv (ap (take i) a.all ∙ take_at done (faces_of a.patterns a.terms) i a.passed.many)

  -- one face more
  step : {done : List Face} {i j : ℕ} → Along T xs ys done i j → i < length xs → (x : Face) → node_of x ≡ get_or xs i 0 → Known T x → (j' : ℕ) → j' ≤ length ys
      → (ps : Patterns) (ts : Terms) → Left T xs ys (i + 1) j' ps ts → all_faces T xs ys ≡ done ++ (x ∷ faces_of ps ts) → Along T xs ys (done ++ (x ∷ [])) (i + 1) j'
  step {done} {i} a l x n k j' m ps ts left e =
      record {
        patterns = ps;
        terms = ts;
        left = left;
        all = e ∙ inv (append_assoc done (x ∷ []) (faces_of ps ts));
        passed = record {
          small = a.passed.small;
          many = omega (arith, length-append done (x ∷ []));
          nodes = λ k b. go k b (dec_lt k i);
          known = all_append (Known T) done (x ∷ []) a.passed.known (k, tt);
        };
        in_pattern = omega arith;
        in_heading = m;
      }
    where
      go : (k : ℕ) → k < i + 1 → Dec (k < i) → node_of (get_or (done ++ (x ∷ [])) k (meets 0 0)) ≡ get_or xs k 0
      go k b (yes s) = ap node_of (get_or-append done (x ∷ []) (meets 0 0) k (omega arith)) ∙ a.passed.nodes k s
      go k b (no s) =
          let q : k ≡ i = omega arith in
          ap node_of (get_or_at done x [] (meets 0 0) k (omega arith)) ∙ n ∙ ap (λ k. get_or xs k 0) (inv q)

module _ {T : Table} {xs ys : List ℕ} (r : Readable T xs ys) where
  pub along_start : Along T xs ys [] 0 0
  along_start =
      let p = pattern_is T r.small xs r.pattern_reads in
      let h = heading_of_lem T r.small ys r.heading_reads in
      record {
        patterns = pattern_of T xs ▸ ∅ₚ;
        terms = term_of T ys ▹ ∅;
        left = record {
          fine = (p.0, tt);
          over = (h.0, tt);
          shallow = omega (arith, heading_deep T r.small ys r.heading_reads);
          alike = refl;
          pattern_left = p.1 ∙ inv (append-nil (encₚ (pattern_of T xs)));
          heading_left = h.1 ∙ inv (append-nil (enc (term_of T ys)));
        };
        all = inv (one_row (pattern_of T xs) (term_of T ys));
        passed = record { small = r.small; many = refl; nodes = λ k l. absurd (not-suc-le-zero l); known = tt };
        in_pattern = omega arith;
        in_heading = omega arith;
      }

  pub along_symbol : {done : List Face} {i j : ℕ} → Along T xs ys done i j → i < length xs → get_or xs i 0 < T.size → AtSymbol T xs ys done i j
  along_symbol {done} {i} {j} a l m = go a.patterns a.terms a.left a.all
    where
      go : (ps : Patterns) (ts : Terms) → Left T xs ys i j ps ts → all_faces T xs ys ≡ done ++ faces_of ps ts → AtSymbol T xs ys done i j
      go ∅ₚ ts w e = absurd (nil≢cons (inv w.pattern_left ∙ drop-cons xs i 0 l))
      go (var v ▸ ps) ts w e = absurd (omega (arith, (drop_head xs i (32768 + v) (encsₚ ps) w.pattern_left).1))
      go (sym f qs ▸ ps) ∅ w e = absurd (omega arith)
      go (sym f qs ▸ ps) (node g us ▹ ts) w e =
          record { inside = hy.0; symbol = symbol; rest = faces_of qs us ++ faces_of ps ts; next = rw (hx.1, hy.1) e; on = on' }
        where
          hx : (i < length xs) × (get_or xs i 0 ≡ f)
          hx = drop_head xs i f (encsₚ qs ++ encsₚ ps) w.pattern_left

          hy : (j < length ys) × (get_or ys j 0 ≡ g)
          hy = drop_head ys j g (encs us ++ encs ts) w.heading_left

          symbol : get_or ys j 0 < T.size
          symbol = rw hy.1 w.over.0.0

          on' : 0 < T.deg (get_or xs i 0) (get_or ys j 0) → Along T xs ys (done ++ (meets (get_or xs i 0) (get_or ys j 0) ∷ [])) (i + 1) (j + 1)
          on' s =
              let near : 0 < T.deg f g = rw (hx.1, hy.1) at s in
              let same : countₚ qs ≡ count us = w.fine.0.1 ∙ r.lawful.alike f g near ∙ inv w.over.0.1 in
              step a l (meets (get_or xs i 0) (get_or ys j 0)) refl (m, symbol) (j + 1) (omega (arith, hy.0)) (qs ⊕ₚ ps) (us ⊕ ts)
              (record {
                fine = fines_join T qs ps w.fine.0.2 w.fine.1;
                over = overs_join T us ts w.over.0.2 w.over.1;
                shallow = omega (arith, depths_join us ts);
                alike = omega (arith, countₚ_join qs ps, count_join us ts);
                pattern_left = drop_part xs i (f ∷ []) (encsₚ qs ++ encsₚ ps) w.pattern_left ∙ inv (encsₚ_join qs ps);
                heading_left = drop_part ys j (g ∷ []) (encs us ++ encs ts) w.heading_left ∙ inv (encs_join us ts);
              })
              (rw (hx.1, hy.1) (e ∙ ap (λ l. done ++ l) (pass_symbol f g qs ps us ts same)))

  pub along_variable : {done : List Face} {i j : ℕ} → Along T xs ys done i j → i < length xs → T.size ≤ get_or xs i 0 → AtVariable T xs ys done i j
  along_variable {done} {i} {j} a l m = go a.patterns a.terms a.left a.all
    where
      go : (ps : Patterns) (ts : Terms) → Left T xs ys i j ps ts → all_faces T xs ys ≡ done ++ faces_of ps ts → AtVariable T xs ys done i j
      go ∅ₚ ts w e = absurd (nil≢cons (inv w.pattern_left ∙ drop-cons xs i 0 l))
      go (sym f qs ▸ ps) ts w e = absurd (omega (arith, w.fine.0.0, (drop_head xs i f (encsₚ qs ++ encsₚ ps) w.pattern_left).1))
      go (var v ▸ ps) ∅ w e = absurd (omega arith)
      go (var v ▸ ps) (t ▹ ts) w e =
          record {
            subterm = t;
            over = w.over.0;
            variable = is;
            below = below;
            some = size_positive t;
            inside = within;
            here = ap (take (size t)) w.heading_left ∙ take-append_seam (enc t) (encs ts);
            ends_there = λ vars d b.
                walk_enc T r.small vars ys (as_pattern t) d (omega arith) (over_as T vars t w.over.0) j (encs ts) (w.heading_left ∙ ap (λ l. l ++ encs ts) (inv (enc_as t)))
                ∙ ap (λ l. ends (j + length l)) (enc_as t);
            on = step a l (binds (variable_at xs i) t) (inv is) (below, w.over.0) (j + size t) within ps ts
                (record {
                  fine = w.fine.1;
                  over = w.over.1;
                  shallow = omega arith;
                  alike = omega arith;
                  pattern_left = drop_part xs i ((32768 + v) ∷ []) (encsₚ ps) w.pattern_left;
                  heading_left = drop_part ys j (enc t) (encs ts) w.heading_left;
                })
                (e ∙ ap (λ v. done ++ (binds v t ∷ faces_of ps ts)) (inv is_v));
          }
        where
          hx : (i < length xs) × (get_or xs i 0 ≡ 32768 + v)
          hx = drop_head xs i (32768 + v) (encsₚ ps) w.pattern_left

          is_v : variable_at xs i ≡ v
          is_v = omega (arith, hx.1)

          is : get_or xs i 0 ≡ 32768 + variable_at xs i
          is = omega (arith, hx.1)

          below : variable_at xs i < 32
          below = omega (arith, is_v, w.fine.0.1)

          within : j + size t ≤ length ys
          within = omega (arith, length-drop j ys, ap length w.heading_left, length-append (enc t) (encs ts))

  pub along_end : {done : List Face} {i j : ℕ} → Along T xs ys done i j → length xs ≤ i → done ≡ all_faces T xs ys
  along_end {done} {i} {j} a l = inv (go a.patterns (inv a.left.pattern_left ∙ drop_of_length-le xs l) a.all)
    where
      go : (ps : Patterns) → encsₚ ps ≡ [] → all_faces T xs ys ≡ done ++ faces_of ps a.terms → all_faces T xs ys ≡ done
      go ∅ₚ e q = q ∙ append-nil done
      go (var v ▸ ps) e q = absurd (cons-ne-nil (32768 + v) (encsₚ ps) e)
      go (sym f qs ▸ ps) e q = absurd (cons-ne-nil f (encsₚ qs ++ encsₚ ps) e)

  -- LAW: at the end every node of the pattern's list is passed
  pub along_faced : {done : List Face} {i j : ℕ} → Along T xs ys done i j → length xs ≤ i → Faced T xs (all_faces T xs ys) (length xs)
  along_faced {done} {i} a l = let n : i ≡ length xs = omega arith in rw (← along_end a l, ← n) a.passed

  -- LAW: symbols below the cut, met where nothing has clashed, are the clash
  pub along_clash : {done : List Face} {i j : ℕ} → Along T xs ys done i j → i < length xs → get_or xs i 0 < T.size → (c : ℕ) → clash T c done ≡ none
      → T.deg (get_or xs i 0) (get_or ys j 0) < c → clash T c (all_faces T xs ys) ≡ just i
  along_clash {done} {i} {j} a l m c e b =
      let s = along_symbol a l m in
      ap (clash T c) s.next ∙ clash_next T c done (get_or xs i 0) (get_or ys j 0) s.rest e b ∙ ap just a.passed.many
