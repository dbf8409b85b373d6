-- What packing the variables of a pattern comes to.
use Rattle.std.specs.Prelude.{◌≡◌, List, [], ◌∷◌, ◌++◌, true, false, cond, ltb, ℕ, ◌+◌, ◌-◌, ◌*◌, ◌≤◌, ◌<◌, min, Option, Some, None, unwrap_or, length, get_or}
use Rattle.std.proofs.Math.Option.{none}
use Rattle.theory.specs.Tree.{Term}
use Rattle.theory.specs.Table.{Table}
use Rattle.theory.specs.Faces.{Face}
use Rattle.theory.specs.Match.{positions, in_set, formed, clash, lowest_for, highest_for, lowest_of_lem, highest_of}
use Rattle.theory.specs.Read.{reading, whole}
use Rattle.theory.specs.Stands.{Noted}
use Rattle.meaning.specs.Limits.{set_words_lem, variable_count, span_width}
use Rattle.meaning.specs.File.{table_in}
use Rattle.meaning.specs.Refusals.{SoundFile}
use Rattle.meaning.specs.Packing.{through, order, packed_count, packed_spans, all_words_lem, packed_sets}
use Rattle.meaning.specs.Calls.{zeros, faces_in}
use Rattle.meaning.specs.Search.{unformed, worst}
use Rattle.meaning.specs.Over.{over}
use Rattle.near.specs.Near.{near_words, NearSets}
use Rattle.facing.specs.declared.notes.Note.{Note}
use Rattle.variable.specs.declared.Found.{Found}
use Rattle.packing.specs.declared.Search.{Search}

-- The least variable without a form, where the worst of them is this: none where each has one.
abbrev pub lacking_of : ℕ → Option ℕ
lacking_of n = cond (ltb n variable_count) (Some n) None

-- What packing starts from: the lists are read whole over the table, nothing clashes, and it is noted where the subterms stand that face the
-- pattern's variables.
pub record Packable (table pattern heading : List ℕ) (cut : ℕ) (notes : List ℕ) : Type 0 where
  pub sound : SoundFile table
  pub pattern_reads : reading (table_in table) true pattern ≡ whole
  pub heading_reads : reading (table_in table) false heading ≡ whole
  pub positive : 0 < cut
  pub top : cut ≤ 1000
  pub clear : clash (table_in table) cut (faces_in table pattern heading) ≡ none
  pub noted : Noted heading notes (faces_in table pattern heading)

-- The near sets of the heading's symbols are gathered, at this cut, if the pattern has a variable: without one they are not asked for.
pub record NearWhere (table pattern heading : List ℕ) (cut : ℕ) (near : List ℕ) : Type 0 where
  pub room : near_words * (table_in table).size ≤ length near
  pub gathered : (i : ℕ) → i < length pattern → 32768 ≤ get_or pattern i 0 → NearSets (table_in table) cut heading near

-- All that at some cut.
pub record PackableAt (table pattern heading near notes : List ℕ) : Type 0 where
  pub cut : ℕ
  pub packable : Packable table pattern heading cut notes
  pub gathered : NearWhere table pattern heading cut near

-- The lists that are lent are long enough.
pub record Room (pattern heading : List ℕ) (notes own : List Note) (spans sets : List ℕ) : Type 0 where
  pub of_notes : length pattern ≤ length notes
  pub of_own : length pattern ≤ length own
  pub of_spans : span_width * variable_count ≤ length spans
  pub of_sets : set_words_lem * length heading ≤ length sets

-- What came of variable v, which has so many positions, is noted, in its span and beside what the variables before it brought. The primed spans are the
-- later ones.
pub record VariableNoted (v positions : ℕ) (before : Search) (found : Found) (after : Search) (spans spans' : List ℕ) : Type 0 where
  pub packed : after.packed ≡ before.packed + positions
  pub lacking : after.lacking ≡ cond found.formed before.lacking (Some (min (unwrap_or before.lacking v) v))
  pub lowest : after.degrees.lowest ≡ min before.degrees.lowest found.degrees.lowest
  pub highest : after.degrees.highest ≡ min before.degrees.highest found.degrees.highest
  pub span : spans' ≡ over spans (span_width * v) (before.packed ∷ positions ∷ found.degrees.lowest ∷ found.degrees.highest ∷ [])

-- Variable v, which the terms ts face, is packed, behind all that was packed before. The primed buffers are the later ones.
pub record PackedNext (T : Table) (cut : ℕ) (ts : List Term) (v : ℕ) (before after : Search) (spans spans' sets sets' : List ℕ) : Type 0 where
  pub packed : after.packed ≡ before.packed + positions ts
  pub lacking : after.lacking ≡ cond (formed T cut ts) before.lacking (Some (min (unwrap_or before.lacking v) v))
  pub lowest : after.degrees.lowest ≡ min before.degrees.lowest (lowest_for T cut ts)
  pub highest : after.degrees.highest ≡ min before.degrees.highest (highest_for T cut ts)
  pub span : spans' ≡ over spans (span_width * v) (before.packed ∷ positions ts ∷ lowest_for T cut ts ∷ highest_for T cut ts ∷ [])
  pub words : sets' ≡ over sets (set_words_lem * before.packed) (all_words_lem (through (positions ts) (λ k. in_set T cut ts k ∷ [])))

-- All variables are packed, as the pattern has them. These are the spans later, and the sets before and later.
pub record PackedAll (T : Table) (cut : ℕ) (fs : List Face) (r : Search) (spans sets sets' : List ℕ) : Type 0 where
  pub packed : r.packed ≡ packed_count fs
  pub lacking : r.lacking ≡ lacking_of (worst (unformed T cut fs) (order fs))
  pub lowest : r.degrees.lowest ≡ lowest_of_lem T cut fs
  pub highest : r.degrees.highest ≡ highest_of T cut fs
  pub spans_are : spans ≡ packed_spans T cut fs ++ zeros (length spans - length (packed_spans T cut fs))
  pub sets_are : sets' ≡ over sets 0 (packed_sets T cut fs)

-- .. at whatever cut the near sets are of
abbrev pub PackedAt : List ℕ → List ℕ → List ℕ → List ℕ → List ℕ → Search → List ℕ → List ℕ → List ℕ → Type 0
PackedAt table pattern heading near notes r spans sets sets' =
    (cut : ℕ) → Packable table pattern heading cut notes → NearWhere table pattern heading cut near
    → PackedAll (table_in table) cut (faces_in table pattern heading) r spans sets sets'
