-- What is said of records and their headings. Statements; the proofs are in proofs/.
use Rattle.std.specs.Prelude.{◌≡◌, ◌⊎◌, List, [], ◌∷◌, ◌++◌, map, true, false, cond, ℕ, ◌+◌, ◌*◌, ◌-◌, ◌≤◌, ◌<◌, eqb, length, get_or, drop}
use Rattle.std.proofs.Math.Option.{Option, none, some as just}
use Rattle.theory.specs.Least.{All}
use Rattle.theory.specs.Pairs.{pair, is_pair}
use Rattle.meaning.specs.File.{symbol_count_lem, pair_count_lem, pairs_in}
use Rattle.meaning.specs.Refusals.{row_number, first, SoundFile}
use Rattle.meaning.specs.Calls.{Answer, aye, refused, gives}
use Rattle.meaning.specs.Demands.{Exactly}
use Rattle.marc.specs.Frame.{Field, field, field_mark, record_mark, digits_at, base_address, entry_count, entry_at, field_at, field_length, field_end, fields_in, frame_rows}
use Rattle.marc.specs.Subfields.{subfield_mark, subfield}
use Rattle.marc.specs.Known.{Known, string_of, number_of, entry_of}
use Rattle.marc.specs.Heading.{tag100, code_a, code_d, heading_rows, HeadedBy}
use Rattle.marc.specs.Plain.{Holds, tag_of, record_of, Subfield, coded, FineSubfield, Unmarked, subfields_bytes}

-- ---- the frame

-- Records as one writes them pass the frame's tests, and are read as the fields that were written, in that order.
abbrev pub ReadsPlain : Type 0
ReadsPlain = (one two : List ℕ) (fs : List Field) → Holds one two fs → (first (frame_rows (record_of one two fs)) ≡ none) × (fields_in (record_of one two fs) ≡ fs)

-- Of any record that passes: its numbers are digits, and each field lies between the base address and the last byte, with its 1E.
pub record FieldStands (r : List ℕ) (e : ℕ) : Type 0 where
  pub length_digits : digits_at r (entry_at e + 3) 4 ≡ true
  pub start_digits : digits_at r (entry_at e + 7) 5 ≡ true
  pub behind : base_address r ≤ field_at r e
  pub not_empty : 0 < field_length r e
  pub before_last : field_end r e < length r
  pub ended : get_or r (field_end r e - 1) 0 ≡ field_mark

pub record Framed (r : List ℕ) : Type 0 where
  pub base_digits : digits_at r 12 5 ≡ true
  pub base_inside : base_address r < length r
  pub directory_fits : base_address r ≡ 25 + 12 * entry_count r
  pub directory_ended : get_or r (base_address r - 1) 0 ≡ field_mark
  pub each : (e : ℕ) → e < entry_count r → FieldStands r e
  pub ended : get_or r (length r - 1) 0 ≡ record_mark

-- ---- fields and subfields

-- The field at index i is the first with that tag.
pub record FirstWith (tag : List ℕ) (fs : List Field) (content : List ℕ) : Type 0 where
  pub index : ℕ
  pub inside : index < length fs
  pub is : get_or fs index (field [] []) ≡ field tag content
  pub none_before : (k : ℕ) → k < index → tag_of (get_or fs k (field [] [])) ≡ tag → ⊥

-- Subfields are read as they were written: of a field's subfields, behind two indicators and bytes without a 1F, the first with a code.
abbrev pub first_coded : ℕ → List Subfield → Option (List ℕ)
first_coded code [] = none
first_coded code (coded c text ∷ ss) = cond (eqb c code) (just text) (first_coded code ss)

abbrev pub ReadsSubfields : Type 0
ReadsSubfields = (i j code : ℕ) (junk : List ℕ) (ss : List Subfield) → (code ≡ subfield_mark → ⊥) → Unmarked junk → All FineSubfield ss
    → subfield code (i ∷ j ∷ (junk ++ subfields_bytes ss)) ≡ first_coded code ss

-- ---- the heading

-- The number of a string: some entry has that very string, byte for byte, and no other entry does.
pub record Listed (ks : List Known) (string : List ℕ) (number : ℕ) : Type 0 where
  pub index : ℕ
  pub inside : index < length ks
  pub same_bytes : string_of (entry_of ks index) ≡ string
  pub number_is : number_of (entry_of ks index) ≡ number
  pub only : (k : ℕ) → k < length ks → string_of (entry_of ks k) ≡ string → k ≡ index

-- A node for dates: the absent number where there are none, else their own.
abbrev pub DatesNode : List Known → ℕ → Option (List ℕ) → ℕ → Type 0
DatesNode ks absent none node = node ≡ absent
DatesNode ks absent (just string) node = Listed ks string node

-- The three nodes of a record that is not refused.
pub record Heads (r : List ℕ) (ks : List Known) (heading absent : ℕ) (nodes : List ℕ) : Type 0 where
  pub content : List ℕ
  pub name : List ℕ
  pub name_node : ℕ
  pub dates_node : ℕ
  pub first_100 : FirstWith tag100 (fields_in r) content
  pub name_is : subfield code_a content ≡ just name
  pub name_listed : Listed ks name name_node
  pub dates_are : DatesNode ks absent (subfield code_d content) dates_node
  pub nodes_are : nodes ≡ heading ∷ name_node ∷ dates_node ∷ []

pub record HeadsCall (r : List ℕ) (ks : List Known) (heading absent : ℕ) (output : List ℕ) (given : HeadedBy) : Type 0 where
  pub refuses : Exactly (heading_rows r ks heading absent output) given.answer
  pub refusal_leaves : (n place : ℕ) → given.answer ≡ refused n place → given.output ≡ output
  pub three_nodes : given.answer ≡ gives aye → (nodes : List ℕ) × Heads r ks heading absent nodes × (given.output ≡ nodes ++ drop 3 output)

-- An entry that may not be listed: an earlier one has its string, or its number is that of absent dates. The first such entry of a list.
abbrev pub Unfit : List Known → ℕ → ℕ → Type 0
Unfit ks absent j = ((i : ℕ) × (i < j) × (string_of (entry_of ks i) ≡ string_of (entry_of ks j))) ⊎ (number_of (entry_of ks j) ≡ absent)

pub record FirstUnfit (ks : List Known) (absent place : ℕ) : Type 0 where
  pub inside : place < length ks
  pub unfit : Unfit ks absent place
  pub none_before : (k : ℕ) → k < place → Unfit ks absent k → ⊥

-- In which order the call's rows stand, whatever is lent: the list, the room, the seven tests of the frame, the field, the name, the strings.
abbrev pub HeadingOrder : Type 0
HeadingOrder = (r : List ℕ) (ks : List Known) (heading absent : ℕ) (output : List ℕ)
    → map row_number (heading_rows r ks heading absent output) ≡ 19 ∷ 8 ∷ 17 ∷ 17 ∷ 17 ∷ 17 ∷ 17 ∷ 17 ∷ 17 ∷ 20 ∷ 21 ∷ 22 ∷ []

-- What it leaves in lent memory: a refusal the whole output, an answer all that stands behind three nodes; and no more and no less is there in any case.
pub record HeadingLeaves (output : List ℕ) (given : HeadedBy) : Type 0 where
  pub refusal_leaves : (n place : ℕ) → given.answer ≡ refused n place → given.output ≡ output
  pub rest_stays : given.answer ≡ gives aye → drop 3 given.output ≡ drop 3 output
  pub same_length : length given.output ≡ length output

-- Absent dates are never the same as given ones: their nodes differ, and so in any table their degree is what a listed pair says, else 0.
pub record AbsentApart (degree_of : (table : List ℕ) (a b : ℕ) → Answer ℕ) (ks : List Known) (absent : ℕ) : Type 0 where
  pub nodes_differ : (string : List ℕ) (node : ℕ) → Listed ks string node → node ≡ absent → ⊥
  pub unless-listed : (table string : List ℕ) (node : ℕ) → SoundFile table → absent < symbol_count_lem table → node < symbol_count_lem table → Listed ks string node
      → ((k l h d : ℕ) → k < pair_count_lem table → get_or (pairs_in table) k (pair 0 0 0) ≡ pair l h d → is_pair l h absent node ≡ false)
      → degree_of table absent node ≡ gives 0

-- ---- records as one writes them, through the whole call

-- A list in which no string stands twice and none has the number of absent dates.
pub record FineList (ks : List Known) (absent : ℕ) : Type 0 where
  pub none_twice : (i j : ℕ) → i < j → j < length ks → string_of (entry_of ks i) ≡ string_of (entry_of ks j) → ⊥
  pub none_absent : (j : ℕ) → j < length ks → number_of (entry_of ks j) ≡ absent → ⊥

-- Fields of which the first with tag 100 was written so: two indicators, bytes without a 1F, and these subfields.
pub record Wrote100 (fs : List Field) (ss : List Subfield) : Type 0 where
  pub one : ℕ
  pub two : ℕ
  pub between : List ℕ
  pub unmarked : Unmarked between
  pub fine : All FineSubfield ss
  pub first_100 : FirstWith tag100 fs (one ∷ two ∷ (between ++ subfields_bytes ss))

-- Of a record with such fields, whose first a is listed and whose first d is listed or missing, with a fine list and room for three nodes: the call
-- answers, and the output begins with the heading symbol, the name's number and the dates', or that of absent dates.
abbrev pub ReadsWritten : List Known → ((bytes : List ℕ) (heading absent : ℕ) (output : List ℕ) → HeadedBy) → Type 0
ReadsWritten ks call =
    (leader leader' : List ℕ) (fs : List Field) → Holds leader leader' fs → (ss : List Subfield) → Wrote100 fs ss
    → (absent : ℕ) → FineList ks absent
    → (name : List ℕ) → first_coded code_a ss ≡ just name → (name_node : ℕ) → Listed ks name name_node
    → (dates_node : ℕ) → DatesNode ks absent (first_coded code_d ss) dates_node
    → (heading : ℕ) (output : List ℕ) → 3 ≤ length output
    → let given = call (record_of leader leader' fs) heading absent output in
    (given.answer ≡ gives aye) × (given.output ≡ heading ∷ name_node ∷ dates_node ∷ drop 3 output)
