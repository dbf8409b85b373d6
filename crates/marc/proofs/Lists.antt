-- A line ends with the first 0A behind its number, so that a file's lines are told by its bytes, one after the other, up to where no line can be what follows.
use mathlib.Core.Path.{◌≡◌, refl, sym, ap, ap₂, ◌∙◌}
use mathlib.Core.List.{List, [], ◌∷◌, ◌++◌, append_assoc, append-nil}
use Prim.Native.Nat.{ℕ, ◌+◌, ◌≤◌}
use native.Mathlib.Omega.{arith}
use lib.ListN.{length, length-append}
use Rattle.theory.specs.Least.{All}
use Rattle.meaning.specs.Program.{decimal, line}
use Rattle.marc.specs.Known.{Known, known, string_of}
use Rattle.marc.specs.ListFile.{Numbered, Listable, line_of, lines_of, first_line_lem, list_text, ListFile, NoFirstLine, NoLine, at_first, behind}
use Rattle.marc.specs.Lists.{OneList, ListOrBad, OneBadLine}
use Rattle.marc.proofs.Parting.{parts_once}
use Rattle.marc.proofs.Numerals.{decimal-some, decimal_once}

-- LAW: a line of two fields, with other bytes behind it
pub two_fields : (a b left : List ℕ) → line (a ∷ b ∷ []) ++ left ≡ a ++ (32 ∷ (b ++ (10 ∷ left)))
two_fields a b left = append_assoc a (32 ∷ (b ++ (10 ∷ []))) left ∙ ap (λ t. a ++ (32 ∷ t)) (append_assoc b (10 ∷ []) left)

-- ---- one line

first_once : (heading absent heading' absent' : ℕ) (left left' : List ℕ) → Numbered heading → Numbered absent → Numbered heading' → Numbered absent'
    → first_line_lem heading absent ++ left ≡ first_line_lem heading' absent' ++ left' → (heading ≡ heading') × (absent ≡ absent') × (left ≡ left')
first_once h a h' a' left left' p q p' q' e =
    let f = sym (two_fields (decimal h) (decimal a) left) ∙ e ∙ two_fields (decimal h') (decimal a') left' in
    let one = decimal_once h h' 32 32 (decimal a ++ (10 ∷ left)) (decimal a' ++ (10 ∷ left')) p p' refl refl f in
    let two = decimal_once a a' 10 10 left left' q q' refl refl one.2 in
    (one.0, two.0, two.2)

line_once : (k k' : Known) (left left' : List ℕ) → Listable k → Listable k' → line_of k ++ left ≡ line_of k' ++ left' → (k ≡ k') × (left ≡ left')
line_once (known s n) (known s' n') left left' p q e =
    let f = sym (two_fields (decimal n) s left) ∙ e ∙ two_fields (decimal n') s' left' in
    let one = decimal_once n n' 32 32 (s ++ (10 ∷ left)) (s' ++ (10 ∷ left')) p.0 q.0 refl refl f in
    let two = parts_once (λ b. b ≡ 10 → ⊥) s s' 10 10 left left' p.1 q.1 (λ n. n refl) (λ n. n refl) one.2 in
    (ap₂ known two.0 one.0, two.2)

-- LAW: besides its string a line has at least three bytes
pub line_long : (k : Known) → 3 + length (string_of k) ≤ length (line_of k)
line_long (known s n) = omega (arith, decimal-some n, length-append (decimal n) (32 ∷ (s ++ (10 ∷ []))), length-append s (10 ∷ []))

-- LAW: no line begins where the file ends
none-at_end : NoLine []
none-at_end k left l e = omega (arith, ap length e, length-append (line_of k) left, line_long k)

-- ---- all lines

lines_once : (ks ks' : List Known) (left left' : List ℕ) → All Listable ks → All Listable ks' → NoLine left → NoLine left'
    → lines_of ks ++ left ≡ lines_of ks' ++ left' → (ks ≡ ks') × (left ≡ left')
lines_once [] [] left left' p q m n e = (refl, e)
lines_once [] (k ∷ ks) left left' p q m n e = absurd (m k (lines_of ks ++ left') q.0 (e ∙ append_assoc (line_of k) (lines_of ks) left'))
lines_once (k ∷ ks) [] left left' p q m n e = absurd (n k (lines_of ks ++ left) p.0 (sym e ∙ append_assoc (line_of k) (lines_of ks) left))
lines_once (k ∷ ks) (k' ∷ ks') left left' p q m n e =
    let f = sym (append_assoc (line_of k) (lines_of ks) left) ∙ e ∙ append_assoc (line_of k') (lines_of ks') left' in
    let one = line_once k k' (lines_of ks ++ left) (lines_of ks' ++ left') p.0 q.0 f in
    let rest = lines_once ks ks' left left' p.1 q.1 m n one.1 in
    (ap₂ ◌∷◌ one.0 rest.0, rest.1)

-- a file that begins with a list's lines, and what is left where they end
module _ {front : List ℕ} {heading absent : ℕ} {ks : List Known} (f : ListFile front heading absent ks) where
  begins : (left : List ℕ) → front ++ left ≡ first_line_lem heading absent ++ (lines_of ks ++ left)
  unfolding list_text
  begins left = ap (λ t. t ++ left) f.written ∙ append_assoc (first_line_lem heading absent) (lines_of ks) left

  begun : (bytes left : List ℕ) → bytes ≡ front ++ left → NoFirstLine bytes → ⊥
  begun bytes left e never = never heading absent (lines_of ks ++ left) f.heading_fits f.absent_fits (e ∙ begins left)

-- LAW: it begins so in one way
begun_once : {front front' : List ℕ} {heading absent heading' absent' : ℕ} {ks ks' : List Known} → ListFile front heading absent ks → ListFile front' heading' absent' ks'
    → (left left' : List ℕ) → NoLine left → NoLine left' → front ++ left ≡ front' ++ left' → (heading ≡ heading') × (absent ≡ absent') × (ks ≡ ks') × (left ≡ left')
begun_once {heading} {absent} {heading'} {absent'} {ks} {ks'} f f' left left' never never' e =
    let one = first_once heading absent heading' absent' (lines_of ks ++ left) (lines_of ks' ++ left') f.heading_fits f.absent_fits f'.heading_fits f'.absent_fits (sym (begins f left) ∙ e ∙ begins f' left') in
    let rest = lines_once ks ks' left left' f.each f'.each never never' one.2 in
    (one.0, one.1, rest.0, rest.1)

-- THEOREM: a file is one list's at most
pub one_list : OneList
one_list bytes h a ks h' a' ks' f f' = let q = begun_once f f' [] [] none-at_end none-at_end refl in (q.0, q.1, q.2)

-- THEOREM: a list's file has no bad line
pub list_or_bad : ListOrBad
list_or_bad bytes h a ks _ f (at_first never) = begun f bytes [] (sym (append-nil bytes)) never
list_or_bad bytes h a ks _ f (behind h' a' ks' left g e some never) = let q = begun_once f g [] left none-at_end never (append-nil bytes ∙ e) in omega (arith, some, ap length q.3)

-- THEOREM: one line is the first that is not as it has to be
pub one_bad_line : OneBadLine
one_bad_line bytes _ _ (at_first never) (at_first never') = refl
one_bad_line bytes _ _ (at_first never) (behind h a ks left f e some _) = absurd (begun f bytes left e never)
one_bad_line bytes _ _ (behind h a ks left f e some _) (at_first never) = absurd (begun f bytes left e never)
one_bad_line bytes _ _ (behind h a ks left f e some never) (behind h' a' ks' left' f' e' some' never') = let q = begun_once f f' left left' never never' (sym e ∙ e') in ap (λ k. length k + 2) q.2
