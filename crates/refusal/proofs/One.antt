-- A number and a place name one refusal: each case has a number of its own, from which it can be found again.
use mathlib.Core.Path.{◌≡◌, refl, sym, ap, ◌∙◌}
use mathlib.Core.Bool.{cond}
use mathlib.Core.Option.{Option, some as just}
use Prim.Native.Nat.{ℕ}
use lib.Dec.{eqb}
use native.Mathlib.Omega.{arith}
use Rattle.meaning.specs.Refusals.{Refusal as Given, refusal}
use Rattle.meaning.specs.Calls.{Answer, refused, gives, refused_as, unless}
use Rattle.refusal.specs.declared.Refusal.{Refusal}
use Rattle.refusal.specs.declared.Refusal.TheVariants.{Layout, Counts, Arity, Pair, Cut, Pattern, Heading, Room, Clash, NoForm, Misshapen, NoSymbol, Absent}
use Rattle.refusal.specs.Told.{told, refused_by}

-- the case that a number and a place tell of
abbrev named : ℕ → ℕ → Refusal
named n place =
    cond (eqb n 1) Layout
    (cond (eqb n 2) Counts
    (cond (eqb n 3) (Arity place)
    (cond (eqb n 4) (Pair place)
    (cond (eqb n 5) Cut
    (cond (eqb n 6) (Pattern place)
    (cond (eqb n 7) (Heading place)
    (cond (eqb n 8) Room
    (cond (eqb n 9) (Clash place)
    (cond (eqb n 10) (NoForm place)
    (cond (eqb n 12) Misshapen
    (cond (eqb n 13) (NoSymbol place) Absent)))))))))))

module _ (A : Type 0) where
  abbrev named_in : Answer A → Refusal
  named_in (refused n place) = named n place
  named_in (gives a) = Absent

  named_told : (f : Refusal) → named_in (refused_by f) ≡ f
  named_told Layout = refl
  named_told Counts = refl
  named_told (Arity symbol) = refl
  named_told (Pair index) = refl
  named_told Cut = refl
  named_told (Pattern node) = refl
  named_told (Heading node) = refl
  named_told Room = refl
  named_told (Clash node) = refl
  named_told (NoForm variable) = refl
  named_told Misshapen = refl
  named_told (NoSymbol place) = refl
  named_told Absent = refl

  -- LAW: two refusals that say the same are the same
  pub one_refusal : (f g : Refusal) → ◌≡◌ {A = Answer A} (refused_by f) (refused_by g) → f ≡ g
  one_refusal f g e = sym (named_told f) ∙ ap named_in e ∙ named_told g

module _ {A : Type 0} where
  -- LAW: a call whose rows give a refusal is refused so
  pub unless-told : (f : Refusal) (o : Option Given) (a : A) → o ≡ just (told f) → unless o a ≡ refused_by f
  unless-told f o a e = ap (λ o. unless o a) e

  -- LAW: a refusal gives nothing else
  pub gives_none : (f : Refusal) (a : A) → refused_by f ≡ gives a → ⊥
  gives_none f a e = go (told f) e
    where
      go : (g : Given) → refused_as g ≡ gives a → ⊥
      go (refusal n place) e = let z : ◌≡◌ {A = ℕ} 0 1 = cc in omega arith
