-- The promise of each export allows one result and one later content of all that is lent: each of its parts is an equation whose right side has
-- nothing of the result. And a code tells the refusal: its number is in the low 16 bits, its place in those above, of 32 bits or of 64.
use mathlib.Core.Path.{◌≡◌, refl, sym, subst, ◌∙◌}
use mathlib.Core.List.{List}
use Prim.Native.Nat.{ℕ, ◌≤◌, ◌<◌, ◌/◌, ◌%◌}
use native.Mathlib.Omega.{arith}
use borrow.Author.Tests.{le-ltb}
use Rattle.meaning.specs.Refusals.{Refusal as Given, refusal, number_of, place_of}
use Rattle.refusal.specs.Told.{told}
use Rattle.refusal.specs.declared.Refusal.{Refusal}
use Rattle.refusal.specs.declared.Refusal.TheVariants.{Layout, Counts, Arity, Pair as BadPair, Cut, Pattern, Heading, Room, Clash, NoForm, Misshapen, NoSymbol, Absent}
use Rattle.table.specs.declared.read.Pair.{Pair}
use Rattle.exchange.specs.Said.{told as fault-told}
use Rattle.exchange.specs.declared.Fault.{Fault}
use Rattle.exchange.specs.declared.Fault.TheVariants.{List as BadEntry, Room as NoRoom, Frame, NoField, NoName, UnlistedName, UnlistedDates}
use Rattle.capi.specs.Answers.{code_of}
use Rattle.capi.specs.Tables.{ShxTable, ShxSymbolDegree, ShxArity, ShxPair}
use Rattle.capi.specs.Terms.{ShxHeadingDegree, ShxSubterm, ShxNearer}
use Rattle.capi.specs.Matching.{ShxMatch}
use Rattle.capi.specs.Writing.{ShxWriteTable}
use Rattle.capi.specs.Saving.{ShxWiden}
use Rattle.capi.specs.Marc.{highest_place, told_place, wide_code_lem, ShxMarcHeading}

-- THEOREM: any two results that a promise allows are equal, and so is what they leave
module _ (table : List ℕ) where
  pub one_table : (r s : ℕ) → ShxTable table r → ShxTable table s → r ≡ s
  one_table r s p q = p ∙ sym q

  pub one_symbol_degree : (a b degree r s d e : ℕ) → ShxSymbolDegree table a b degree r d → ShxSymbolDegree table a b degree s e → (r ≡ s) × (d ≡ e)
  one_symbol_degree a b degree r s d e p q = (p.answers ∙ sym q.answers, p.leaves ∙ sym q.leaves)

  pub one_arity : (symbol arity r s d e : ℕ) → ShxArity table symbol arity r d → ShxArity table symbol arity s e → (r ≡ s) × (d ≡ e)
  one_arity symbol arity r s d e p q = (p.answers ∙ sym q.answers, p.leaves ∙ sym q.leaves)

  pub one_pair : (index lower higher degree r s l k h i d e : ℕ) → ShxPair table index lower higher degree r l h d → ShxPair table index lower higher degree s k i e
      → (r ≡ s) × (l ≡ k) × (h ≡ i) × (d ≡ e)
  one_pair index lower higher degree r s l k h i d e p q =
      (p.answers ∙ sym q.answers, p.leaves_lower ∙ sym q.leaves_lower, p.leaves_higher ∙ sym q.leaves_higher, p.leaves_degree ∙ sym q.leaves_degree)

  pub one_heading_degree : (one two : List ℕ) (degree r s d e : ℕ) → ShxHeadingDegree table one two degree r d → ShxHeadingDegree table one two degree s e → (r ≡ s) × (d ≡ e)
  one_heading_degree one two degree r s d e p q = (p.answers ∙ sym q.answers, p.leaves ∙ sym q.leaves)

  pub one_subterm : (term : List ℕ) (index r s : ℕ) → ShxSubterm table term index r → ShxSubterm table term index s → r ≡ s
  one_subterm term index r s p q = p ∙ sym q

  pub one_nearer : (heading one two : List ℕ) (r s : ℕ) → ShxNearer table heading one two r → ShxNearer table heading one two s → r ≡ s
  one_nearer heading one two r s p q = p ∙ sym q

  pub one_match : (pattern heading : List ℕ) (cut : ℕ) (spans sets : List ℕ) (r s : ℕ) (u v x y : List ℕ) (l k h i : ℕ)
      → ShxMatch table pattern heading cut spans sets r u x l h → ShxMatch table pattern heading cut spans sets s v y k i
      → (r ≡ s) × (u ≡ v) × (x ≡ y) × (l ≡ k) × (h ≡ i)
  one_match pattern heading cut spans sets r s u v x y l k h i p q = (
    p.answers ∙ sym q.answers,
    p.spans_later ∙ sym q.spans_later,
    p.sets_later ∙ sym q.sets_later,
    p.lowest-later ∙ sym q.lowest-later,
    p.highest-later ∙ sym q.highest-later,
  )

pub one_write_table : (arities : List ℕ) (records : List Pair) (output : List ℕ) (total r s : ℕ) (u v : List ℕ) (d e : ℕ)
    → ShxWriteTable arities records output total r u d → ShxWriteTable arities records output total s v e → (r ≡ s) × (u ≡ v) × (d ≡ e)
one_write_table arities records output total r s u v d e p q =
    (p.answers ∙ sym q.answers, p.output-later ∙ sym q.output-later, p.total-later ∙ sym q.total-later)

pub one_widen : (words output : List ℕ) (written r s : ℕ) (u v : List ℕ) (d e : ℕ)
    → ShxWiden words output written r u d → ShxWiden words output written s v e → (r ≡ s) × (u ≡ v) × (d ≡ e)
one_widen words output written r s u v d e p q =
    (p.answers ∙ sym q.answers, p.output-later ∙ sym q.output-later, p.written-later ∙ sym q.written-later)

pub one_marc_heading : (bytes text ends numbers : List ℕ) (heading absent : ℕ) (nodes : List ℕ) (r s : ℕ) (u v : List ℕ)
    → ShxMarcHeading bytes text ends numbers heading absent nodes r u → ShxMarcHeading bytes text ends numbers heading absent nodes s v → (r ≡ s) × (u ≡ v)
one_marc_heading bytes text ends numbers heading absent nodes r s u v p q = (p.answers ∙ sym q.answers, p.leaves ∙ sym q.leaves)

-- ---- a code tells the refusal

pub record Tells (code : ℕ) (g : Given) : Type 0 where
  pub some : 0 < code
  pub low : code % 65536 ≡ number_of g
  pub high : code / 65536 ≡ place_of g

tells : (g : Given) → 0 < number_of g → number_of g < 65536 → Tells (code_of g) g
tells (refusal n place) l m = record { some = omega arith; low = omega arith; high = omega arith }

numbered : (why : Refusal) → (0 < number_of (told why)) × (number_of (told why) < 65536)
numbered Layout = (omega arith, omega arith)
numbered Counts = (omega arith, omega arith)
numbered (Arity symbol) = (omega arith, omega arith)
numbered (BadPair index) = (omega arith, omega arith)
numbered Cut = (omega arith, omega arith)
numbered (Pattern node) = (omega arith, omega arith)
numbered (Heading node) = (omega arith, omega arith)
numbered Room = (omega arith, omega arith)
numbered (Clash node) = (omega arith, omega arith)
numbered (NoForm variable) = (omega arith, omega arith)
numbered Misshapen = (omega arith, omega arith)
numbered (NoSymbol place) = (omega arith, omega arith)
numbered Absent = (omega arith, omega arith)

-- THEOREM: a refusal's code is not 0, and has its number and its place
pub code_tells : (why : Refusal) → Tells (code_of (told why)) (told why)
code_tells why = tells (told why) (numbered why).0 (numbered why).1

-- ---- and so does a code of 64 bits

-- LAW: a place that 48 bits tell is told as it is
pub told_itself : (place at : ℕ) → place ≡ at → place ≤ highest_place → place ≡ told_place at
told_itself place at e l = e ∙ sym (rw (le-ltb highest_place at (omega (arith, e))))

fault_numbered : (why : Fault) → (0 < number_of (fault-told why)) × (number_of (fault-told why) < 65536)
fault_numbered (BadEntry entry) = (omega arith, omega arith)
fault_numbered NoRoom = (omega arith, omega arith)
fault_numbered (Frame byte) = (omega arith, omega arith)
fault_numbered NoField = (omega arith, omega arith)
fault_numbered NoName = (omega arith, omega arith)
fault_numbered UnlistedName = (omega arith, omega arith)
fault_numbered UnlistedDates = (omega arith, omega arith)

tells_wide : (g : Given) → 0 < number_of g → number_of g < 65536 → place_of g ≤ highest_place → Tells (wide_code_lem g) g
tells_wide (refusal n place) l m h = subst (λ p. Tells (code_of (refusal n p)) (refusal n place)) (told_itself place place refl h) (tells (refusal n place) l m)

-- THEOREM: the code of a refused record is not 0, and has the refusal's number and its place, where 48 bits tell it
pub wide_code_tells : (why : Fault) → place_of (fault-told why) ≤ highest_place → Tells (wide_code_lem (fault-told why)) (fault-told why)
wide_code_tells why = tells_wide (fault-told why) (fault_numbered why).0 (fault_numbered why).1
