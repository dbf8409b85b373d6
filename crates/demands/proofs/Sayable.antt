-- A call can say what its rows and its value ask for, if its refusals have a case for each place where a row can hold, and its answers one for each value:
-- the first row that holds is one of them.
use mathlib.Core.Path.{◌≡◌, refl, ap, ◌∙◌}
use mathlib.Core.List.{List, [], ◌∷◌}
use mathlib.Core.Bool.{Bool, true, false}
use mathlib.Core.Option.{Option, none, some as just, none-ne-some}
use Prim.Native.Nat.{ℕ}
use Rattle.std.specs.Prelude.{Result, Ok, Err}
use Rattle.theory.specs.Least.{All}
use Rattle.meaning.specs.Refusals.{Refusal as Given, refusal, Row, row, row_number, row_place, first, at0}
use Rattle.meaning.specs.Calls.{Answer, gives, refused_as, unless}

-- cases of refusals, and what each tells
module _ {R : Type 0} (told : R → Given) where
  -- a row's refusal has a case that says it
  abbrev pub Sayable : Row → Type 0
  Sayable r = (place : ℕ) → row_place r ≡ just place → (why : R) × (told why ≡ refusal (row_number r) place)

  -- a row whose only place is 0, and one that has any
  pub zero-said : (n : ℕ) (b : Bool) (why : R) → told why ≡ refusal n 0 → Sayable (row n (at0 b))
  zero-said n b why e place q = (why, e ∙ ap (refusal n) (at_zero b q))
    where
      at_zero : (b : Bool) → at0 b ≡ just place → 0 ≡ place
      at_zero true q = cc
      at_zero false q = absurd (none-ne-some place q)

  pub placed_said : (n : ℕ) (o : Option ℕ) (case : ℕ → R) → ((i : ℕ) → told (case i) ≡ refusal n i) → Sayable (row n o)
  placed_said n o case e place q = (case place, e place)

  -- and so has the first that holds
  first_said : (rows : List Row) → All Sayable rows → (r : Given) → first rows ≡ just r → (why : R) × (told why ≡ r)
  first_said [] s r e = absurd (none-ne-some r e)
  first_said (row n (just place) ∷ rows) s r e =
      let w = s.0 place refl in
      let f : refusal n place ≡ r = cc in
      (w.0, w.1 ∙ f)
  first_said (row n none ∷ rows) s r e = first_said rows s.1 r e

  -- LAW: so a result whose value says what is given, and whose error has a case for each refusal, can say what a call with these rows does
  module _ {A B : Type 0} (says : Result B R → Answer A) (give : A → B) (gave : (a : A) → says (Ok (give a)) ≡ gives a) (refused_so : (why : R) → says (Err why) ≡ refused_as (told why)) where
    pub sayable : (rows : List Row) → All Sayable rows → (a : A) → (r : Result B R) × (says r ≡ unless (first rows) a)
    sayable rows s a = go (first rows) (first_said rows s)
      where
        go : (o : Option Given) → ((r : Given) → o ≡ just r → (why : R) × (told why ≡ r)) → (r : Result B R) × (says r ≡ unless o a)
        go none f = (Ok (give a), gave a)
        go (just r) f = let w = f r refl in (Err w.0, refused_so w.0 ∙ ap refused_as w.1)
