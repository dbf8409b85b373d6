-- Subfields are read as they were written: no text holds a 1F, so the first 1F with a code behind it opens the first subfield with that code, and
-- its text ends at the next.
use mathlib.Core.Path.{◌≡◌, refl, ap, ◌∙◌}
use mathlib.Core.List.{List, [], ◌∷◌, ◌++◌}
use mathlib.Core.Bool.{Bool, true, false, cond}
use mathlib.Core.Option.{some as just}
use Prim.Native.Nat.{ℕ}
use lib.Dec.{eqb}
use borrow.Author.Tests.{ne_eqb}
use Rattle.theory.specs.Least.{All}
use Rattle.marc.specs.Subfields.{subfield_mark, text_to, text_of, subfield}
use Rattle.marc.specs.Plain.{Subfield, coded, Unmarked, FineSubfield, subfields_bytes}
use Rattle.marc.specs.Reading.{first_coded, ReadsSubfields}

-- bytes without a 1F are passed over
passed_over : (code : ℕ) (text rest : List ℕ) → Unmarked text → text_of code (text ++ rest) ≡ text_of code rest
unfolding text_of
passed_over code [] rest u = refl
passed_over code (b ∷ text) rest u = rw (ne_eqb b subfield_mark u.0) (passed_over code text rest u.1)

-- a text ends at the next 1F, or at the end
text_is : (text rest : List ℕ) → Unmarked text → text_to rest ≡ [] → text_to (text ++ rest) ≡ text
text_is [] rest u e = e
text_is (b ∷ text) rest u e = rw (ne_eqb b subfield_mark u.0) (ap (λ t. b ∷ t) (text_is text rest u.1 e))

ends_there : (ss : List Subfield) → text_to (subfields_bytes ss) ≡ []
ends_there [] = refl
ends_there (coded c text ∷ ss) = refl

read : (code : ℕ) (ss : List Subfield) → (code ≡ subfield_mark → ⊥) → All FineSubfield ss → text_of code (subfields_bytes ss) ≡ first_coded code ss
unfolding text_of
read code [] n f = refl
read code (coded c text ∷ ss) n f = go (eqb c code) (read code ss n f.1)
  where
    -- the code itself opens nothing
    behind : text_of code (subfields_bytes ss) ≡ first_coded code ss → text_of code (c ∷ (text ++ subfields_bytes ss)) ≡ first_coded code ss
    behind e = rw (ne_eqb c subfield_mark f.0.0) (passed_over code text (subfields_bytes ss) f.0.1 ∙ e)

    go : (b : Bool) → text_of code (subfields_bytes ss) ≡ first_coded code ss → cond b (just (text_to (text ++ subfields_bytes ss))) (text_of code (c ∷ (text ++ subfields_bytes ss))) ≡ cond b (just text) (first_coded code ss)
    go true e = ap just (text_is text (subfields_bytes ss) f.0.1 (ends_there ss))
    go false e = behind e

-- THEOREM: subfields are read as they were written
pub reads_subfields : ReadsSubfields
unfolding subfield
reads_subfields i j code junk ss n u f = passed_over code junk (subfields_bytes ss) u ∙ read code ss n f
