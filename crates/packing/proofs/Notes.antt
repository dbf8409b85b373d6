-- What packing is given, in the words of the laws that it needs: the heading is short, every node of the pattern faces something, and the
-- notes gathered for a variable that stands in the pattern are of one subterm or more, each inside the heading.
use mathlib.Core.Path.{◌≡◌, refl, sym as inv, ap, ◌∙◌}
use mathlib.Core.List.{List, [], ◌∷◌, ◌++◌, append_assoc, append-nil}
use mathlib.Core.Bool.{cond}
use Prim.Native.Nat.{ℕ, ◌+◌, ◌-◌, ◌*◌, ◌≤◌, ◌<◌, min}
use native.Mathlib.Nat.{not-suc-le-zero, zero-add}
use native.Mathlib.Omega.{arith}
use lib.ListN.{length, get_or, take, drop, length-drop}
use lib.Seq.{take_all, drop-length, length-take-le, drop-drop}
use borrow.Rule.Slice.PartMut.{put_mid, Post-is}
use Rattle.std.specs.Prelude.{Some, unwrap_or}
use Rattle.theory.specs.Tree.{Term}
use Rattle.theory.specs.Table.{Table}
use Rattle.theory.specs.Least.{least}
use Rattle.theory.specs.Faces.{facing}
use Rattle.theory.specs.Match.{size, positions, in_set}
use Rattle.theory.specs.Stands.{Gathered}
use Rattle.theory.specs.Decode.{term_of}
use Rattle.theory.proofs.Decoding.{heading_of_lem}
use Rattle.theory.proofs.Draw.{over-at}
use Rattle.theory.proofs.Gathered.{at_node}
use Rattle.theory.proofs.Noted.{gathered_front}
use Rattle.theory.proofs.Along.{Readable, Faced}
use Rattle.meaning.specs.Limits.{set_words_lem, span_width}
use Rattle.meaning.specs.File.{table_in}
use Rattle.meaning.specs.Packing.{through, count_of, all_words_lem}
use Rattle.meaning.specs.Calls.{faces_in}
use Rattle.meaning.specs.Search.{symbol_worth}
use Rattle.meaning.specs.Over.{over}
use Rattle.meaning.proofs.Sound.{sound}
use Rattle.near.specs.Near.{near_words, NearSets}
use Rattle.terms.specs.declared.asked.Asked.{Asked}
use Rattle.facing.specs.Faced.{ClearBy}
use Rattle.facing.specs.Notes.{note_at, numbers_of}
use Rattle.facing.specs.declared.notes.Note.{Note}
use Rattle.facing.proofs.Numbers.{gathered_each, numbers-take}
use Rattle.facing.specs.Gathering.{GatheredBy}
use Rattle.facing.proofs.Faced.{faced_in, gathered_in}
use Rattle.facing.proofs.Passing.{readable, few_nodes}
use Rattle.positions.specs.Position.{Covers, NearOf}
use Rattle.variable.specs.Variable.{PackedTo, OwnNotes}
use Rattle.variable.proofs.Positions.{positions-first}
use Rattle.variable.specs.declared.Found.{Found}
use Rattle.packing.specs.Pack.{Packable, VariableNoted, PackedNext}
use Rattle.packing.specs.declared.Search.{Search}

-- ---- the rest of a list, lent as a part

module _ (out : List ℕ) (at : ℕ) (inside : at ≤ length out) where
  -- LAW: what is lent
  pub rest_lent : take (length out - at) (drop at out) ≡ drop at out
  rest_lent = take_all (length out - at) (drop at out) (omega (arith, length-drop at out))

  pub rest_long : length (take (length out - at) (drop at out)) ≡ length out - at
  rest_long = ap length rest_lent ∙ length-drop at out

  -- LAW: once it is back, with numbers at its front, these lie over the list
  pub rest_back : (xs : List ℕ) → put_mid at (length out - at) out (over (drop at out) 0 xs) ≡ over out at xs
  unfolding over
  rest_back xs =
      ap (λ (r : List ℕ). take at out ++ ((xs ++ drop (0 + length xs) (drop at out)) ++ r)) (Post-is at (length out) out inside ∙ drop-length out)
      ∙ ap (λ (r : List ℕ). take at out ++ r) (append-nil (xs ++ drop (0 + length xs) (drop at out)))
      ∙ ap (λ (r : List ℕ). take at out ++ (xs ++ r)) (ap (λ (n : ℕ). drop n (drop at out)) (zero-add (length xs)) ∙ drop-drop (length xs) at out)
      ∙ inv (append_assoc (take at out) xs (drop (at + length xs) out))

-- ---- the notes of one variable

-- LAW: once it is packed, and noted
pub noted_next : {T : Table} {cut : ℕ} {ts : List Term} {v first : ℕ} {search after : Search} {found : Found} {spans spans' sets part sets' : List ℕ}
    → set_words_lem * search.packed ≤ length sets
    → PackedTo T cut ts (positions ts) (take (length sets - set_words_lem * search.packed) (drop (set_words_lem * search.packed) sets)) part found.formed found.degrees.lowest found.degrees.highest
    → sets' ≡ put_mid (set_words_lem * search.packed) (length sets - set_words_lem * search.packed) sets part → positions ts ≡ first
    → VariableNoted v first search found after spans spans' → PackedNext T cut ts v search after spans spans' sets sets'
noted_next {T} {cut} {ts} {v} {search = search} {spans = spans} {sets = sets} room p laid is noted =
    record {
      packed = noted.packed ∙ ap (λ n. search.packed + n) (inv is);
      lacking = noted.lacking ∙ ap (λ b. cond b search.lacking (Some (min (unwrap_or search.lacking v) v))) p.forms;
      lowest = noted.lowest ∙ ap (min search.degrees.lowest) p.at-worst;
      highest = noted.highest ∙ ap (min search.degrees.highest) p.at_best;
      span = noted.span ∙ numbers (inv is) p.at-worst p.at_best;
      words = laid
          ∙ ap (put_mid at (length sets - at) sets) (p.words ∙ ap (λ l. over l 0 packed) (rest_lent sets at room))
          ∙ rest_back sets at room packed;
    }
  where
    at : ℕ
    at = set_words_lem * search.packed

    packed : List ℕ
    packed = all_words_lem (through (positions ts) (λ k. in_set T cut ts k ∷ []))

    numbers : {n m l g l' g' : ℕ} → n ≡ m → l ≡ l' → g ≡ g'
        → over spans (span_width * v) (search.packed ∷ n ∷ l ∷ g ∷ []) ≡ over spans (span_width * v) (search.packed ∷ m ∷ l' ∷ g' ∷ [])
    numbers a b c = cc

-- ---- the notes of all

-- LAW: what is asked of a match, where nothing clashes
pub packable_asked : (asked : Asked) {degree : ℕ} {notes : List ℕ} → ClearBy asked.table.file.now asked.cut asked.pattern.now asked.heading.now degree notes
    → Packable asked.table.file.now asked.pattern.now asked.heading.now asked.cut notes
packable_asked asked c =
    record {
      sound = asked.table.sound;
      pattern_reads = asked.pattern_reads;
      heading_reads = asked.heading_reads;
      positive = asked.some_cut;
      top = asked.top_cut;
      clear = c.clear;
      noted = c.noted;
    }

module _ {table pattern heading : List ℕ} {cut : ℕ} {notes : List ℕ} (k : Packable table pattern heading cut notes) where
  pub reads : Readable (table_in table) pattern heading
  reads = readable table pattern heading k.sound k.pattern_reads k.heading_reads

  -- LAW: the heading has few nodes
  pub short : length heading ≤ 1024
  short = few_nodes reads

  -- LAW: every node of the heading is a symbol
  pub symbols : (i : ℕ) → i < length heading → get_or heading i 0 < (table_in table).size
  symbols i l =
      let T = table_in table in
      let t = term_of T heading in
      let h = heading_of_lem T reads.small heading k.heading_reads in
      let n : i < size t = omega (arith, ap length h.1) in
      let symbol = over-at T t h.0 i n in
      let node = at_node T t heading 0 (take_all (size t) heading (omega (arith, ap length h.1)) ∙ h.1) i n in
      let here = ap (λ (j : ℕ). get_or heading j 0) (zero-add i) in
      omega arith

  clear_by : ClearBy table cut pattern heading (least (symbol_worth (table_in table)) (faces_in table pattern heading)) notes
  clear_by = record { clear = k.clear; lowest = refl; noted = k.noted }

  -- LAW: every node of the pattern faces something
  pub nodes_face : Faced (table_in table) pattern (faces_in table pattern heading) (length pattern)
  nodes_face = faced_in table cut pattern heading notes reads k.positive clear_by

  module _ {near : List ℕ} (room : near_words * (table_in table).size ≤ length near) (sets : NearSets (table_in table) cut heading near) where
    -- LAW: the near sets are those of the table at the cut
    pub near_of : NearOf (table_in table) cut near heading
    near_of =
        record {
          lawful = reads.lawful;
          small = (sound table k.sound).small;
          positive = k.positive;
          top = k.top;
          sets = sets;
          symbols = symbols;
        }

    -- there is one for each symbol of the heading
    covers : Covers heading near
    covers i l =
        (omega (arith, symbols i l), (sets i l).gathered, (sets i l).within, omega (arith, symbols i l, (sound table k.sound).small))

    module _ (own : List Note) {v n : ℕ} (g : GatheredBy pattern notes v n (numbers_of own)) (some : 0 < count_of (faces_in table pattern heading) v) (enough : n ≤ length own) where
      abbrev part : List Note
      part = take n own

      count : length part ≡ n
      count = length-take-le n own enough

      -- LAW: what is gathered for a variable that stands in the pattern is of the subterms that face it
      pub gathered_own : Gathered heading (numbers_of part) (length part) (facing v (faces_in table pattern heading))
      gathered_own = rw (count, numbers-take n own) (gathered_front (gathered_in table cut pattern heading notes reads k.positive clear_by g))

      some_notes : 0 < length part
      some_notes = go (facing v (faces_in table pattern heading)) gathered_own some
        where
          go : (ts : List Term) → Gathered heading (numbers_of part) (length part) ts → 0 < positions ts → 0 < length part
          go [] h l = absurd (not-suc-le-zero l)
          go (t ∷ ts) h l = omega (arith, h.count)

      -- LAW: with these notes the variable can be packed, and has as many positions as the first subterm has nodes
      pub own_notes : OwnNotes (table_in table) near heading part
      own_notes =
          record { covers = covers; symbols = symbols; few = short; within = λ o l. (gathered_each part gathered_own o l).inside; some = some_notes }

      pub own_first : count_of (faces_in table pattern heading) v ≡ (note_at part 0).size
      own_first = positions-first part gathered_own some_notes
