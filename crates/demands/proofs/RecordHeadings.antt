-- What is said of headings from exchange records holds of the meaning's program: of one record it is the law of the call, and of two whose last nodes
-- differ the degree is no higher than that of these nodes.
use mathlib.Core.Path.{◌≡◌, refl, sym as inv, ap, ◌∙◌}
use mathlib.Core.Logic.{◌↔◌}
use mathlib.Core.List.{List, [], ◌∷◌, ◌++◌, map}
use mathlib.Core.Bool.{false}
use mathlib.Core.Option.{none, some as just, some-injective}
use Prim.Native.Nat.{ℕ, ◌<◌}
use native.Mathlib.Omega.{arith}
use lib.ListN.{length, get_or, take}
use Rattle.meaning.specs.Refusals.{refusal, number_of, place_of, Row, row, row_number, first, row8-output}
use Rattle.meaning.specs.Calls.{refused, gives, aye}
use Rattle.meaning.proofs.First.{Silent, unless_gives, unless_refused}
use Rattle.meaning.proofs.Degrees.{symbol_degrees}
use Rattle.meaning.proofs.TopCut.{same_heading}
use Rattle.marc.specs.Frame.{frame_rows}
use Rattle.marc.specs.Known.{Known, known_in, row19}
use Rattle.marc.specs.Heading.{dates_in, row20, row21, row22, heading_rows, headed, heading_call}
use Rattle.marc.specs.Reading.{DatesNode, FirstUnfit}
use Rattle.marc.proofs.Headings.{list_fine, heads_call, absent_apart}
use Rattle.marc.proofs.OneHeads.{dates_node_lem}
use Rattle.marc.proofs.Written.{reads_written}
use Rattle.marc.proofs.Unfit.{first_unfit}
use Rattle.demands.specs.RecordHeadings.{DatesApart, RecordHeadings}
use Rattle.demands.proofs.Meant.{Handing, meant}
use Rattle.demands.proofs.Exact.{among, no_row}
use Rattle.demands.proofs.Paired.{rows, parts, both_symbols, lowest_paired}

-- two headings of three nodes whose last ones differ
differ : (H : Handing) (one two : List ℕ) → length one ≡ 3 → length two ≡ 3 → (get_or one 2 0 ≡ get_or two 2 0 → ⊥) → DatesApart (meant H) one two
differ H one two three three' n =
    record {
      never_whole = λ table is. n (ap (λ l. get_or l 2 0) ((same_heading table one two (rows table one two 1000 is)).0 is));
      unless-listed = λ table lists d is.
          let long : 2 < length one = omega (arith, three) in
          let same = three ∙ inv three' in
          let b = both_symbols table one two d is 2 long same in
          let e = (symbol_degrees table (parts table one two d is).0).others (get_or one 2 0) (get_or two 2 0) b.0 b.1 n lists in
          omega (arith, (lowest_paired table one two d is).bounds same 2 long 0 e);
    }

-- ---- a heading that was read

module _ (bytes : List ℕ) (ks : List Known) (heading absent : ℕ) (nodes : List ℕ) (e : headed bytes ks heading absent nodes ≡ gives aye) where
  fine : Silent (row19 ks absent)
  unfolding headed
  fine = list_fine bytes ks heading absent nodes (unless_gives (first (heading_rows bytes ks heading absent nodes)) aye aye e).0

  -- its three nodes, and the last of them
  three_nodes : (length (take 3 (heading_call bytes ks heading absent nodes).output) ≡ 3) × DatesNode ks absent (dates_in bytes) (get_or (take 3 (heading_call bytes ks heading absent nodes).output) 2 0)
  three_nodes =
      let t = (heads_call bytes ks heading absent nodes).three_nodes e in
      let front : take 3 (heading_call bytes ks heading absent nodes).output ≡ t.0 = rw (t.2, t.1.nodes_are) in
      rw front (ap length t.1.nodes_are, dates_node_lem bytes ks heading absent t.0 t.1)

-- ---- 19

module _ (bytes : List ℕ) (ks : List Known) (heading absent : ℕ) (nodes : List ℕ) where
  -- no other row has that number
  nineteen : (o : Row) (rest : List Row) (place : ℕ) → row19 ks absent ≡ o → among 19 (map row_number rest) ≡ false → first (o ∷ rest) ≡ just (refusal 19 place) → row19 ks absent ≡ row 19 (just place)
  nineteen (row m (just i)) rest place is none_has e = let q : refusal m i ≡ refusal 19 place = some-injective _ _ e in is ∙ ap (λ r. row (number_of r) (just (place_of r))) q
  nineteen (row m none) rest place is none_has e = absurd (no_row 19 rest place none_has e)

  list_told : (place : ℕ) → headed bytes ks heading absent nodes ≡ refused 19 place ↔ FirstUnfit ks absent place
  unfolding headed heading_rows row8-output frame_rows row20 row21 row22
  list_told place = (
    (λ e.
        let q = unless_refused (first (heading_rows bytes ks heading absent nodes)) aye 19 place e in
        (first_unfit ks absent place).0 (nineteen (row19 ks absent) (row8-output 3 nodes ∷ (frame_rows bytes ++ (row20 bytes ∷ row21 bytes ∷ row22 ks bytes ∷ []))) place refl refl q)),
    (λ f. rw ((first_unfit ks absent place).1 f)),
  )

-- THEOREM
pub record_headings : (H : Handing) → RecordHeadings (meant H)
record_headings H =
    record {
      first_unfit = λ bytes text ends numbers heading absent nodes. list_told bytes (known_in text ends numbers) heading absent nodes;
      heads = λ bytes text ends numbers heading absent nodes. (heads_call bytes _ heading absent nodes).three_nodes;
      absent_apart = λ bytes text ends numbers heading absent nodes e. absent_apart _ absent (fine bytes _ heading absent nodes e);
      dates_apart = λ text ends numbers absent bytes₁ bytes₂ heading₁ heading₂ nodes₁ nodes₂ e f no_dates dates given.
          let ks = known_in text ends numbers in
          let one = three_nodes bytes₁ ks heading₁ absent nodes₁ e in
          let two = three_nodes bytes₂ ks heading₂ absent nodes₂ f in
          differ H _ _ one.0 two.0
          (λ q. (absent_apart ks absent (fine bytes₁ ks heading₁ absent nodes₁ e)).nodes_differ dates _ (rw given at two.1) (inv q ∙ (rw no_dates at one.1)));
      as_written = λ text ends numbers. reads_written (known_in text ends numbers);
    }
