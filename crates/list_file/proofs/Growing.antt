-- The bytes that were passed are a list's file, and that list is what has been gathered so far: a line more is an entry more. A line has at least three
-- bytes, so that there is room for every entry.
use mathlib.Core.Path.{◌≡◌, refl, sym, ap, subst, ◌∙◌}
use mathlib.Core.List.{List, [], ◌∷◌, ◌++◌, append_assoc, append-nil}
use Prim.Native.Nat.{ℕ, ◌+◌, ◌*◌, ◌≤◌, ◌<◌}
use native.Mathlib.Numerals.{add-one}
use native.Mathlib.Omega.{arith}
use lib.ListN.{length, set, take, drop, length-append}
use lib.Seq.{length-take-le, take_at, take-suc-set}
use Rattle.theory.proofs.Lemmas.{all_append}
use Rattle.meaning.specs.Over.{over}
use Rattle.marc.specs.Known.{Known, known}
use Rattle.marc.specs.ListFile.{Listable, line_of, lines_of, first_line_lem, list_text, ListFile, NoLine, BadLine, behind}
use Rattle.marc.proofs.Lists.{line_long}
use Rattle.list_file.specs.Lines.{Firsts, Strings}
use Rattle.list_file.specs.Listings.{Gathered}
use Rattle.list_file.proofs.Lending.{Lent, lent_none, lent_more}

-- ---- a line more

lines_more : (ks : List Known) (k : Known) → lines_of (ks ++ (k ∷ [])) ≡ lines_of ks ++ line_of k
lines_more [] k = append-nil (line_of k)
lines_more (x ∷ ks) k = ap (λ t. line_of x ++ t) (lines_more ks k) ∙ sym (append_assoc (line_of x) (lines_of ks) (line_of k))

file_more : {front : List ℕ} {heading absent : ℕ} {ks : List Known} (k : Known) → ListFile front heading absent ks → Listable k → ListFile (front ++ line_of k) heading absent (ks ++ (k ∷ []))
unfolding list_text
file_more {heading} {absent} {ks} k f fits = record {
  heading_fits = f.heading_fits;
  absent_fits = f.absent_fits;
  each = all_append Listable ks (k ∷ []) f.each (fits, tt);
  written =
      ap (λ t. t ++ line_of k) f.written
      ∙ append_assoc (first_line_lem heading absent) (lines_of ks) (line_of k)
      ∙ ap (λ t. first_line_lem heading absent ++ t) (sym (lines_more ks k));
}

-- what was put, with all before it
put_behind : (before string : List ℕ) (at : ℕ) → at + length string ≤ length before → take (at + length string) (over before at string) ≡ take at before ++ string
unfolding over
put_behind before string at room =
    take_at (take at before ++ string) (drop (at + length string) before) (at + length string) (omega (arith, length-take-le at before (omega arith), length-append (take at before) string))

one_set : (xs : List ℕ) (n x : ℕ) → n < length xs → take (n + 1) (set xs n x) ≡ take n xs ++ (x ∷ [])
one_set xs n x l = ap (λ m. take m (set xs n x)) (add-one n) ∙ take-suc-set xs n x l

-- ---- what has been gathered

-- What stands in front of the rest is a list's file.
pub record Growing (file text ends numbers rest : List ℕ) (heading absent used n : ℕ) : Type 0 where
  pub front : List ℕ
  pub split : file ≡ front ++ rest
  pub entries : List Known
  pub is : ListFile front heading absent entries
  pub count : length entries ≡ n
  pub lent : Lent (take used text) (take n ends) (take n numbers) entries
  pub short : used ≤ length front
  pub few : 3 * n ≤ length front

pub growing_first : (file text ends numbers rest : List ℕ) (heading absent : ℕ) → Firsts file heading absent rest → Growing file text ends numbers rest heading absent 0 0
unfolding list_text
growing_first file text ends numbers rest heading absent f = record {
  front = first_line_lem heading absent;
  split = f.written;
  entries = [];
  is = record { heading_fits = f.heading_fits; absent_fits = f.absent_fits; each = tt; written = sym (append-nil (first_line_lem heading absent)) };
  count = refl;
  lent = lent_none;
  short = omega arith;
  few = omega arith;
}

module _ (file text ends numbers rest : List ℕ) (heading absent used n : ℕ) (g : Growing file text ends numbers rest heading absent used n) where
  module _ (number : ℕ) (string next : List ℕ) (s : Strings rest number string next) where
    -- LAW: there is room for a line more
    pub room_left : (used + length string ≤ length file) × (3 * n + 3 ≤ length file) × (length next < length rest)
    room_left =
        let k = known string number in
        let whole : length file ≡ length g.front + length rest = ap length g.split ∙ length-append g.front rest in
        let line : length rest ≡ length (line_of k) + length next = ap length s.written ∙ length-append (line_of k) next in
        (omega (arith, whole, line, line_long k, g.short), omega (arith, whole, line, line_long k, g.few), omega (arith, line, line_long k))

    -- LAW: a line more
    pub growing_next : length file ≤ length text → n < length ends → n < length numbers
        → Growing file (over text used string) (set ends n (used + length string)) (set numbers n number) next heading absent (used + length string) (n + 1)
    growing_next room ends-room numbers-room =
        let k = known string number in
        let size : length (take used text) ≡ used = length-take-le used text (omega (arith, room_left.0)) in
        let end : used + length string ≡ length (take used text) + length string = omega (arith, size) in
        let longer : length (g.front ++ line_of k) ≡ length g.front + length (line_of k) = length-append g.front (line_of k) in
        record {
          front = g.front ++ line_of k;
          split = g.split ∙ ap (λ t. g.front ++ t) s.written ∙ sym (append_assoc g.front (line_of k) next);
          entries = g.entries ++ (k ∷ []);
          is = file_more k g.is s.fits;
          count = omega (arith, g.count, length-append g.entries (k ∷ []));
          lent = rw (put_behind text string used (omega (arith, room_left.0)), one_set ends n (used + length string) ends-room, one_set numbers n number numbers-room, end) (lent_more g.lent string number);
          short = omega (arith, longer, line_long k, g.short);
          few = omega (arith, longer, line_long k, g.few);
        }

  -- LAW: no line is what follows
  pub growing_bad : 0 < length rest → NoLine rest → BadLine file (n + 2)
  growing_bad some never = subst (λ m. BadLine file (m + 2)) g.count (behind heading absent g.entries rest g.is g.split some never)

  -- LAW: nothing follows
  pub growing_all : length rest ≡ 0 → length file ≤ length text → n ≤ length ends → n ≤ length numbers → Gathered file text ends numbers (record { heading = heading; absent = absent; strings = n; bytes = used })
  growing_all none room ends-room numbers-room =
      let whole : length file ≡ length g.front + length rest = ap length g.split ∙ length-append g.front rest in
      record {
        entries = g.entries;
        is = subst (λ f. ListFile f heading absent g.entries) (sym (g.split ∙ ap (λ t. g.front ++ t) (nothing rest none) ∙ append-nil g.front)) g.is;
        lent = g.lent.is;
        text_inside = omega (arith, whole, g.short);
        ends_inside = ends-room;
        numbers_inside = numbers-room;
      }
    where
      nothing : (xs : List ℕ) → length xs ≡ 0 → xs ≡ []
      nothing [] e = refl
      nothing (x ∷ xs) e = absurd (omega arith)
