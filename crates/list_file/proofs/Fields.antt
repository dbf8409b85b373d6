-- A line is told field by field: its number is the one that stands there, and what is left behind the byte that ends the number is the line's other field with
-- all that follows.
use mathlib.Core.Path.{◌≡◌, refl, sym, ap, subst, ◌∙◌}
use mathlib.Core.List.{List, [], ◌∷◌, ◌++◌, tail-eq_of_cons-eq}
use mathlib.Core.Bool.{true, false, ◌&&◌, false≢true}
use Prim.Native.Nat.{ℕ, ◌+◌, ◌<◌}
use borrow.Author.Tests.{eqb-true, eq-eqb}
use lib.Dec.{eqb}
use lib.ListN.{length, get_or, take, drop, take-append-drop}
use Rattle.std.specs.Cmp.Lexicographic.{pointwise}
use Rattle.theory.specs.Least.{All}
use Rattle.theory.proofs.Lemmas.{and_left, all_right}
use Rattle.meaning.specs.Program.{decimal}
use Rattle.marc.specs.Frame.{is_digit_lem}
use Rattle.marc.specs.Known.{known}
use Rattle.marc.specs.ListFile.{Numbered, NoFirstLine, NoLine}
use Rattle.marc.proofs.Numerals.{decimal_once}
use Rattle.marc.proofs.Lists.{two_fields}
use Rattle.list_file.specs.Numerals.{Valued}
use Rattle.list_file.specs.Lines.{Firsts, Strings}
use Rattle.list_file.proofs.Ends.{Inline, next_byte}

-- ---- the byte that ends a number

-- LAW: what begins with that byte, and what does not
pub parted : (rest : List ℕ) (c : ℕ) → pointwise eqb (take 1 rest) (c ∷ []) ≡ true → rest ≡ c ∷ drop 1 rest
parted [] c e = absurd (false≢true e)
parted (b ∷ bs) c e = ap (λ d. d ∷ bs) (eqb-true b c (and_left (eqb b c) true e))

pub not_parted : (rest : List ℕ) (c : ℕ) → pointwise eqb (take 1 rest) (c ∷ []) ≡ false → (left : List ℕ) → rest ≡ c ∷ left → ⊥
not_parted rest c e left f = false≢true (sym e ∙ ap (λ t. pointwise eqb (take 1 t) (c ∷ [])) f ∙ ap (λ b. b && true) (eq-eqb c c refl))

-- no other number is there
read_once : (bytes : List ℕ) (n : ℕ) (rest : List ℕ) (m c : ℕ) (left : List ℕ) → Valued bytes n rest → Numbered m → is_digit_lem c ≡ false → bytes ≡ decimal m ++ (c ∷ left)
    → (n ≡ m) × (rest ≡ c ∷ left)
read_once bytes n rest m c left v fits other e =
    let begins : rest ≡ get_or rest 0 0 ∷ drop 1 rest = next_byte rest 0 v.some in
    let q = decimal_once n m (get_or rest 0 0) c (drop 1 rest) left v.fits fits v.ended other (ap (λ t. decimal n ++ t) (sym begins) ∙ sym v.written ∙ e) in
    (q.0, begins ∙ ap (λ b. b ∷ drop 1 rest) q.1 ∙ ap (λ t. c ∷ t) q.2)

-- ---- the first line

module _ (file : List ℕ) where
  module _ (heading : ℕ) (rest : List ℕ) (one : Valued file heading rest) where
    behind_first : (h a : ℕ) (left : List ℕ) → Numbered h → file ≡ decimal h ++ (32 ∷ (decimal a ++ (10 ∷ left))) → (heading ≡ h) × (rest ≡ 32 ∷ (decimal a ++ (10 ∷ left)))
    behind_first h a left p e = read_once file heading rest h 32 (decimal a ++ (10 ∷ left)) one p refl e

    module _ (more : List ℕ) (space : rest ≡ 32 ∷ more) where
      more_is : (h a : ℕ) (left : List ℕ) → Numbered h → file ≡ decimal h ++ (32 ∷ (decimal a ++ (10 ∷ left))) → more ≡ decimal a ++ (10 ∷ left)
      more_is h a left p e = tail-eq_of_cons-eq (sym space ∙ (behind_first h a left p e).1)

      module _ (absent : ℕ) (end : List ℕ) (two : Valued more absent end) where
        -- LAW: no 0A ends that
        pub first_long : ((left : List ℕ) → end ≡ 10 ∷ left → ⊥) → NoFirstLine file
        first_long other h a left p q e = other left (read_once more absent end a 10 left two q refl (more_is h a left p (e ∙ two_fields (decimal h) (decimal a) left))).1

        -- LAW: both are there
        pub first_is : (last : List ℕ) → end ≡ 10 ∷ last → Firsts file heading absent last
        first_is last break = record {
          heading_fits = one.fits;
          absent_fits = two.fits;
          written =
              one.written
              ∙ ap (λ t. decimal heading ++ t) (space ∙ ap (λ t. 32 ∷ t) (two.written ∙ ap (λ t. decimal absent ++ t) break))
              ∙ sym (two_fields (decimal heading) (decimal absent) last);
        }

-- ---- any other line

module _ (bytes : List ℕ) where
  module _ (number : ℕ) (rest : List ℕ) (one : Valued bytes number rest) where
    module _ (more : List ℕ) (space : rest ≡ 32 ∷ more) where
      -- LAW: no 0A ends the string
      pub line-unended : All Inline more → NoLine bytes
      line-unended plain (known s n) left fits e =
          let is : more ≡ s ++ (10 ∷ left) = tail-eq_of_cons-eq (sym space ∙ (read_once bytes number rest n 32 (s ++ (10 ∷ left)) one fits.0 refl (e ∙ two_fields (decimal n) s left)).1) in
          (all_right Inline s (10 ∷ left) (subst (All Inline) is plain)).0 refl

      -- LAW: the string is there
      pub line_is : (end : ℕ) → end < length more → get_or more end 0 ≡ 10 → All Inline (take end more) → Strings bytes number (take end more) (drop (end + 1) more)
      line_is end inside break plain = record {
        fits = (one.fits, plain);
        written =
            one.written
            ∙ ap (λ t. decimal number ++ t) (space ∙ ap (λ t. 32 ∷ t) (sym (take-append-drop end more) ∙ ap (λ t. take end more ++ t) (next_byte more end inside ∙ ap (λ b. b ∷ drop (end + 1) more) break)))
            ∙ sym (two_fields (decimal number) (take end more) (drop (end + 1) more));
      }
