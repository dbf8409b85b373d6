-- What a match answers, computed from what faces what.
--
-- `fs` is `faces p h` throughout: the pattern's nodes in preorder, each with what faces it.
use Rattle.std.specs.Prelude.{◌≡◌, List, [], ◌∷◌, Bool, true, ◌&&◌, cond, ℕ, suc, ◌≤◌, ◌<◌, ltb, leb, length, get_or, take}
use Rattle.std.proofs.Math.Option.{Option, none, some as just}
use Rattle.theory.specs.Tree.{Term, Pattern, enc, fill, stands}
use Rattle.theory.specs.Table.{Table, Over, degree, Matcher}
use Rattle.theory.specs.Least.{least, All, every, some, lowest, highest}
use Rattle.theory.specs.Faces.{Face, meets, binds, faces, facing}

-- The number of positions of a term.
abbrev pub size : Term → ℕ
size t = length (enc t)

-- The positions of a variable that these terms face: those of the first.
abbrev pub positions : List Term → ℕ
positions [] = 0
positions (t ∷ ts) = size t

-- a place, one node further on
abbrev pub one_on : Option ℕ → Option ℕ
one_on none = none
one_on (just i) = just (suc i)

-- Place i is the first at which the two lists differ.
pub record FirstUnlike (xs ys : List ℕ) (i : ℕ) : Type 0 where
  pub in_one : i < length xs
  pub in_other : i < length ys
  pub before : take i xs ≡ take i ys
  pub unlike : get_or xs i 0 ≡ get_or ys i 0 → ⊥

module _ (T : Table) where
  -- The symbol at position k of a term, in preorder. Past the term's end there is none: T's size is no symbol.
  abbrev pub at : Term → ℕ → ℕ
  at t k = get_or (enc t) k T.size

  -- The least degree of the symbol s with the symbols at position k of the terms ts.
  abbrev pub shared : List Term → ℕ → ℕ → ℕ
  shared ts k s = least (λ t. T.deg s (at t k)) ts

  -- The set at position k of a variable that the terms ts face: the symbols that are near enough to what each of ts has
  -- there.
  abbrev pub in_set : ℕ → List Term → ℕ → ℕ → Bool
  in_set c ts k s = ltb s T.size && leb c (shared ts k s)

  -- The variable has a form: no position's set is empty.
  abbrev pub formed : ℕ → List Term → Bool
  formed c ts = every (positions ts) (λ k. some T.size (in_set c ts k))

  -- The place of a clash: the pattern's first node, in preorder, whose symbol is not near enough to the one that it faces.
  abbrev pub clash : ℕ → List Face → Option ℕ
  clash c [] = none
  clash c (meets f g ∷ fs) = cond (ltb (T.deg f g) c) (just 0) (one_on (clash c fs))
  clash c (binds v t ∷ fs) = one_on (clash c fs)

  -- The lowest and the highest degree that a symbol of the set at position k shares with the terms that face the variable.
  abbrev pub lowest_at_lem : ℕ → List Term → ℕ → ℕ
  lowest_at_lem c ts k = lowest T.size (λ s. cond (in_set c ts k s) (shared ts k s) 1000)

  abbrev pub highest_at : ℕ → List Term → ℕ → ℕ
  highest_at c ts k = highest T.size (λ s. cond (in_set c ts k s) (shared ts k s) 0)

  -- The own lowest and the own highest degree of a variable that the terms ts face: the least over its positions, at worst and at best.
  abbrev pub lowest_for : ℕ → List Term → ℕ
  lowest_for c ts = lowest (positions ts) (lowest_at_lem c ts)

  abbrev pub highest_for : ℕ → List Term → ℕ
  highest_for c ts = lowest (positions ts) (highest_at c ts)

  -- What a node brings to the degree of a match: a symbol its degree with the symbol that faces it, a variable its own degree.
  abbrev pub brings : (ℕ → ℕ) → Face → ℕ
  brings own (meets f g) = T.deg f g
  brings own (binds v t) = own v

  -- The lowest and the highest degree of a match: the least of the facing symbols' degrees and of the variables' own, at worst and at best.
  abbrev pub lowest_of_lem : ℕ → List Face → ℕ
  lowest_of_lem c fs = least (brings (λ v. lowest_for c (facing v fs))) fs

  abbrev pub highest_of : ℕ → List Face → ℕ
  highest_of c fs = least (brings (λ v. highest_for c (facing v fs))) fs

  -- A clash's place i: the node there is a symbol whose degree with the symbol that faces it is below the cut, and no node before it is.
  pub record ClashAt (c : ℕ) (fs : List Face) (i : ℕ) : Type 0 where
    pub pattern : ℕ
    pub heading : ℕ
    pub inside : i < length fs
    pub here : get_or fs i (meets 0 0) ≡ meets pattern heading
    pub below : T.deg pattern heading < c
    pub first : (k f g : ℕ) → k < i → get_or fs k (meets 0 0) ≡ meets f g → c ≤ T.deg f g

  -- u reaches m with every term of ts.
  abbrev pub Reaches : ℕ → List Term → Term → Type 0
  Reaches m ts u = All (λ t. m ≤ degree T u t) ts

  -- u is drawn from the sets of a variable that the terms ts face: a ground term over the table, as long as each of ts, with a symbol of
  -- the set at each position.
  pub record Drawn (c : ℕ) (ts : List Term) (u : Term) : Type 0 where
    pub over : Over T u
    pub shape : All (λ t. size u ≡ size t) ts
    pub symbols : (k : ℕ) → k < size u → in_set c ts k (at u k) ≡ true

  -- No symbol clashes, and each variable that stands in the pattern is given a term drawn from its sets.
  pub record DrawnAll (c : ℕ) (p : Pattern) (h : Term) (σ : ℕ → Term) : Type 0 where
    pub clear : clash c (faces p h) ≡ none
    pub each : (v : ℕ) → stands v p ≡ true → Drawn c (facing v (faces p h)) (σ v)

  -- There is a match: no symbol clashes, and every variable that stands in the pattern has a form.
  pub record Matches (c : ℕ) (p : Pattern) (h : Term) : Type 0 where
    pub clear : clash c (faces p h) ≡ none
    pub forms : (v : ℕ) → stands v p ≡ true → formed c (facing v (faces p h)) ≡ true

  -- n is the lowest, the highest degree of a matcher: one has it, and all have at least, at most that.
  pub record IsLowest (c : ℕ) (p : Pattern) (h : Term) (n : ℕ) : Type 0 where
    pub reached : (σ : ℕ → Term) × Matcher T c p h σ × (degree T (fill σ p) h ≡ n)
    pub bounds : (σ : ℕ → Term) → Matcher T c p h σ → n ≤ degree T (fill σ p) h

  pub record IsHighest (c : ℕ) (p : Pattern) (h : Term) (n : ℕ) : Type 0 where
    pub reached : (σ : ℕ → Term) × Matcher T c p h σ × (degree T (fill σ p) h ≡ n)
    pub bounds : (σ : ℕ → Term) → Matcher T c p h σ → degree T (fill σ p) h ≤ n

  -- The degree of a term with all of the terms ts: the least that it has with one of them.
  abbrev pub with_all_lem : List Term → Term → ℕ
  with_all_lem ts u = least (λ t. degree T u t) ts

  -- n is variable v's own lowest, own highest degree: what one matcher gives to v has it with all the subterms that face v, and what any matcher gives
  -- to v has at least, at most that.
  pub record IsLowestFor (c : ℕ) (p : Pattern) (h : Term) (v n : ℕ) : Type 0 where
    pub reached : (σ : ℕ → Term) × Matcher T c p h σ × (with_all_lem (facing v (faces p h)) (σ v) ≡ n)
    pub bounds : (σ : ℕ → Term) → Matcher T c p h σ → n ≤ with_all_lem (facing v (faces p h)) (σ v)

  pub record IsHighestFor (c : ℕ) (p : Pattern) (h : Term) (v n : ℕ) : Type 0 where
    pub reached : (σ : ℕ → Term) × Matcher T c p h σ × (with_all_lem (facing v (faces p h)) (σ v) ≡ n)
    pub bounds : (σ : ℕ → Term) → Matcher T c p h σ → with_all_lem (facing v (faces p h)) (σ v) ≤ n
