-- Packing along the pattern's list: at a node that is a variable whose span is empty the variable comes next in the order, and is packed behind
-- the others; any other node leaves all as it was. The heading has room for each variable, since it has for all of them.
use mathlib.Core.Path.{◌≡◌, sym as inv, ap, ◌∙◌}
use mathlib.Core.List.{List, [], ◌∷◌, ◌++◌, append_assoc, append-nil}
use mathlib.Core.Bool.{Bool, true, false, cond}
use Prim.Native.Nat.{ℕ, ◌+◌, ◌*◌, ◌≤◌, ◌<◌}
use native.Mathlib.Nat.{not-suc-le-zero}
use native.Mathlib.Omega.{arith}
use lib.ListN.{length, get_or, take, drop, length-append, take-append-drop}
use lib.Seq.{take_all}
use Rattle.theory.specs.Tree.{Term}
use Rattle.theory.specs.Table.{Table}
use Rattle.theory.specs.Faces.{Face, meets, binds, facing, node_of}
use Rattle.theory.specs.Match.{positions}
use Rattle.theory.proofs.Along.{Known, Faced, size_positive}
use Rattle.theory.proofs.Gathered.{Gathers, gather_same}
use Rattle.theory.proofs.Growing.{facing-append}
use Rattle.theory.proofs.Lemmas.{all_get_d}
use Rattle.meaning.specs.Limits.{set_words_lem, variable_count, span_width}
use Rattle.meaning.specs.File.{table_in}
use Rattle.meaning.specs.Packing.{firsts, variables, order, count_of, sum, among, packed_count}
use Rattle.meaning.specs.Calls.{zeros, faces_in}
use Rattle.meaning.proofs.Loop.{variables_symbol, order_variable, sum_last}
use Rattle.meaning.proofs.Ordered.{order_symbol, order_met, order_new}
use Rattle.meaning.proofs.NoOverlap.{packed_few_read}
use Rattle.terms.specs.Kinds.{kind_of}
use Rattle.terms.specs.declared.kind.Kind.TheVariants.{Variable}
use Rattle.terms.proofs.Nodes.{kind_variable, variable_kind}
use Rattle.packing.specs.Pack.{Packable, PackedNext, PackedAll}
use Rattle.packing.specs.declared.Search.{Search}
use Rattle.packing.proofs.Notes.{reads, nodes_face}
use Rattle.packing.proofs.Spans.{spans_in, span_none, span_some}
use Rattle.packing.proofs.Searching.{Searched, searched_next, searched_all}

-- ---- room

module _ (count : ℕ → ℕ) where
  grows_one : (xs : List Face) (x : Face) → sum count (order xs) ≤ sum count (order (xs ++ (x ∷ [])))
  grows_one xs (meets f g) = omega (arith, ap (λ l. sum count (firsts l)) (variables_symbol xs f g))
  grows_one xs (binds v t) = go (among v (variables xs)) (order_variable xs v t)
    where
      go : (b : Bool) → order (xs ++ (binds v t ∷ [])) ≡ cond b (order xs) (order xs ++ (v ∷ [])) → sum count (order xs) ≤ sum count (order (xs ++ (binds v t ∷ [])))
      go true e = omega (arith, ap (sum count) e)
      go false e = omega (arith, ap (sum count) e, sum_last count v (order xs))

  -- LAW: the first nodes pack no more than all
  pub grows : (xs ys : List Face) → sum count (order xs) ≤ sum count (order (xs ++ ys))
  grows xs [] = omega (arith, ap (λ l. sum count (order l)) (append-nil xs))
  grows xs (y ∷ ys) = omega (arith, grows_one xs y, grows (xs ++ (y ∷ [])) ys, ap (λ l. sum count (order l)) (append_assoc xs (y ∷ []) ys))

-- ---- at a node of the pattern

-- a variable that stands at a node has positions
some-positions : (ts : List Term) → 0 < length ts → 0 < positions ts
some-positions [] l = absurd (not-suc-le-zero l)
some-positions (t ∷ ts) l = size_positive t

stands_somewhere : {T : Table} {fs : List Face} {i v : ℕ} → Gathers T fs i v → 0 < count_of fs v
stands_somewhere {fs = fs} {i = i} {v = v} g =
    let all = ap (facing v) (inv (take-append-drop (i + 1) fs)) ∙ facing-append v (take (i + 1) fs) (drop (i + 1) fs) in
    some-positions (facing v fs)
    (omega (
      arith,
      ap length all,
      length-append (facing v (take (i + 1) fs)) (facing v (drop (i + 1) fs)),
      ap length g.on,
      length-append (facing v (take i fs)) (g.subterm ∷ []),
    ))

-- variable v stands at node i and at none before, and there is room for it behind so many positions
pub record NewAt (T : Table) (fs : List Face) (room i v packed : ℕ) : Type 0 where
  pub gathers : Gathers T fs i v
  pub below : v < variable_count
  pub new : among v (order (take i fs)) ≡ false
  pub some : 0 < count_of fs v
  pub fits : packed + count_of fs v ≤ room

module _ (table pattern heading : List ℕ) (cut : ℕ) where
  -- the variables of the first i nodes are packed
  abbrev pub PackedAlong : ℕ → ℕ → List ℕ → Search → List ℕ → List ℕ → Type 0
  PackedAlong i n before search spans sets =
      let fs = faces_in table pattern heading in
      Searched (table_in table) cut fs (order (take i fs)) n before search spans sets

module _ {table pattern heading : List ℕ} {cut : ℕ} {notes : List ℕ} (k : Packable table pattern heading cut notes) where
  abbrev T : Table
  T = table_in table

  abbrev fs : List Face
  fs = faces_in table pattern heading

  abbrev Done : ℕ → ℕ → List ℕ → Search → List ℕ → List ℕ → Type 0
  Done = PackedAlong table pattern heading cut

  all_fit : sum (count_of fs) (order fs) ≤ length heading
  unfolding faces_in packed_count
  all_fit = packed_few_read (reads k) cut k.positive k.clear

  module _ {i n : ℕ} {before : List ℕ} {search : Search} {spans sets : List ℕ} (h : Done i n before search spans sets) where
    -- LAW: at the pattern's end
    pub along_all : length pattern ≤ i → PackedAll T cut fs search spans before sets
    along_all l = searched_all T cut fs n before (rw (take_all i fs (omega (arith, (nodes_face k).many))) at h)

    module _ (l : i < length pattern) where
      same-order : order (take (i + 1) fs) ≡ order (take i fs) → Done (i + 1) n before search spans sets
      same-order e = rw e h

      -- LAW: at a node that is no variable
      pub along_other : ((v : ℕ) → kind_of T.size (get_or pattern i 0) ≡ Variable v → ⊥) → Done (i + 1) n before search spans sets
      along_other none =
          let f = nodes_face k in
          go f (get_or fs i (meets 0 0)) (f.nodes i l) (all_get_d (Known T) fs i (meets 0 0) (omega (arith, f.many)) f.known)
        where
          go : Faced T pattern fs (length pattern) → (x : Face) → node_of x ≡ get_or pattern i 0 → Known T x → Done (i + 1) n before search spans sets
          go f (meets a b) e w = same-order (order_symbol f i l (omega (arith, w.0)))
          go f (binds v t) e w =
              absurd (none _ (inv (kind_variable T.size (get_or pattern i 0) (omega (arith, f.small)) (omega arith) (omega (arith, w.0)))))

      module _ {v : ℕ} (is : kind_of T.size (get_or pattern i 0) ≡ Variable v) where
        gathers : Gathers T fs i v
        gathers = gather_same (nodes_face k) i v l (variable_kind T.size (get_or pattern i 0) v is).0

        below : v < variable_count
        below = (variable_kind T.size (get_or pattern i 0) v is).1

        count_is : get_or spans (span_width * v + 1) 0 ≡ get_or (spans_in T cut fs (order (take i fs)) ++ zeros n) (span_width * v + 1) 0
        count_is = ap (λ l. get_or l (span_width * v + 1) 0) h.spanned

        -- LAW: at a variable that has a span
        pub along_met : (get_or spans (span_width * v + 1) 0 ≡ 0 → ⊥) → Done (i + 1) n before search spans sets
        along_met some = same-order (order_met gathers (span_some T cut fs (order (take i fs)) v (zeros n) below (λ e. some (count_is ∙ e))))

        -- LAW: at a variable that has none
        pub new_at : get_or spans (span_width * v + 1) 0 ≡ 0 → NewAt T fs (length heading) i v search.packed
        new_at none =
            let some = stands_somewhere gathers in
            let new = span_none T cut fs (order (take i fs)) v (zeros n) below some (inv count_is ∙ none) in
            record {
              gathers = gathers;
              below = below;
              new = new;
              some = some;
              fits = omega (
                arith,
                all_fit,
                h.many,
                sum_last (count_of fs) v (order (take i fs)),
                ap (sum (count_of fs)) (order_new gathers new),
                grows (count_of fs) (take (i + 1) fs) (drop (i + 1) fs),
                ap (λ l. sum (count_of fs) (order l)) (take-append-drop (i + 1) fs),
              );
            }

      -- LAW: once it is packed
      pub along_new : {v : ℕ} {after : Search} {spans' sets' : List ℕ} → NewAt T fs (length heading) i v search.packed → set_words_lem * length heading ≤ length before
          → PackedNext T cut (facing v fs) v search after spans spans' sets sets' → Done (i + 1) n before after spans' sets'
      along_new {v} w r p =
          rw (order_new w.gathers w.new) (searched_next T cut fs n before (order (take i fs)) v h w.new w.below (omega (arith, w.fits)) p)
