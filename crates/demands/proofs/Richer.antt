-- A richer table loses nothing, whatever program is asked, if of each of its answers the other statements hold: the lists write the same trees, a matcher
-- under the first table is one under the second, and both answers say of matchers and of near symbols all there is to say. How a match is computed and
-- packed plays no part here.
use mathlib.Core.Path.{◌≡◌, refl, sym as inv, ap, ◌∙◌, subst}
use mathlib.Core.List.{List}
use mathlib.Core.Bool.{Bool, true, false}
use Prim.Native.Nat.{ℕ, ◌+◌, ◌*◌, ◌-◌, ◌≤◌, ◌<◌}
use native.Mathlib.Omega.{arith}
use lib.ListN.{get_or}
use Rattle.theory.specs.Tree.{Term, Pattern, stands}
use Rattle.theory.specs.Table.{Table, Lawful, Richer}
use Rattle.theory.specs.Faces.{faces, facing}
use Rattle.theory.proofs.Richer.{fine_richer, over_richer, near_richer, matcher_richer, highest_richer, own_highest_richer}
use Rattle.meaning.specs.Limits.{set_room, variable_count, span_width}
use Rattle.meaning.specs.File.{table_in}
use Rattle.meaning.specs.Refusals.{SoundFile}
use Rattle.meaning.specs.Calls.{gives, Degrees, highest_in, Matched}
use Rattle.meaning.specs.Buffers.{first_position_lem, position_count_lem, own_highest_lem, holds}
use Rattle.meaning.specs.Demands.{WritesTerm, WritesPattern, Only, Accepted, Found, Decides, Demand2 as MatchOf}
use Rattle.meaning.specs.Matching.{InSpan}
use Rattle.meaning.proofs.Matched.{ready}
use Rattle.meaning.proofs.Again.{accepted_again}
use Rattle.meaning.proofs.Wrong.{found_all, found_given}
use Rattle.demands.specs.Demand3.{DrawnBy}
use Rattle.demands.specs.Further.{MatchSays}
use Rattle.demands.specs.Richer.{MatchersStay, StillAnswers, LosesNothing}
use Rattle.demands.proofs.Stated.{Stated, answered_accepted}
use Rattle.demands.proofs.PackedAlike.{counts_alike, starts_alike}

module _ (table₁ table₂ pattern heading : List ℕ) (cut : ℕ) (spans₁ sets₁ spans₂ sets₂ : List ℕ) (r₁ r₂ : Matched) (more : Richer (table_in table₁) (table_in table₂))
    (x₁ : Stated table₁ pattern heading cut spans₁ sets₁ r₁) (x₂ : Stated table₂ pattern heading cut spans₂ sets₂ r₂)
    (a₁ : Accepted table₁ pattern heading cut spans₁ sets₁) (a₂ : Accepted table₂ pattern heading cut spans₂ sets₂) where
  abbrev T : Table
  T = table_in table₁

  abbrev R : Table
  R = table_in table₂

  d₁ : MatchOf table₁ pattern heading cut r₁
  d₁ = x₁.decided a₁

  d₂ : MatchOf table₂ pattern heading cut r₂
  d₂ = x₂.decided a₂

  abbrev p : Pattern
  p = d₁.p

  abbrev h : Term
  h = d₁.h

  -- the same trees
  same_pattern : d₂.p ≡ p
  same_pattern = let w = d₁.writes_pattern.holds in inv (d₂.writes_pattern.only p (record { fine = fine_richer T R more true p w.fine; is = w.is }))

  same_heading : d₂.h ≡ h
  same_heading = let w = d₁.writes_heading.holds in inv (d₂.writes_heading.only h (record { over = over_richer T R more h w.over; is = w.is }))

  writes_pattern₂ : Only (WritesPattern R pattern) p
  writes_pattern₂ = subst (Only (WritesPattern R pattern)) same_pattern d₂.writes_pattern

  writes_heading₂ : Only (WritesTerm R heading) h
  writes_heading₂ = subst (Only (WritesTerm R heading)) same_heading d₂.writes_heading

  decides₂ : Decides R cut p h r₂
  decides₂ = subst (λ q. Decides R cut q h r₂) same_pattern (subst (λ t. Decides R cut d₂.p t r₂) same_heading d₂.decides)

  m₁ : MatchSays T cut p h pattern r₁
  m₁ = x₁.says a₁ p d₁.writes_pattern.holds h d₁.writes_heading.holds

  m₂ : MatchSays R cut p h pattern r₂
  m₂ = x₂.says a₂ p writes_pattern₂.holds h writes_heading₂.holds

  L₁ : Lawful T
  L₁ = (ready table₁ pattern heading cut spans₁ sets₁ a₁).lawful

  L₂ : Lawful R
  L₂ = (ready table₂ pattern heading cut spans₂ sets₂ a₂).lawful

  stay : MatchersStay T R cut p h
  stay = matcher_richer T R more L₁ L₂ cut p h

  -- where the first answers
  module _ (d : Degrees) (e : r₁.answer ≡ gives d) where
    f₁ : Found T cut p h r₁
    f₁ = found_given T cut p h r₁ d₁.decides d e

    abbrev σ : ℕ → Term
    σ = f₁.is_lowest.reached.0

    f₂ : Found R cut p h r₂
    f₂ = found_all R cut p h r₂ decides₂ σ (stay σ f₁.is_lowest.reached.1).0

    drawn : (τ : ℕ → Term) → DrawnBy T p r₁ τ → DrawnBy R p r₂ τ
    drawn τ g = (f₂.matchers τ).0 (stay τ ((f₁.matchers τ).1 g)).0

    given : DrawnBy T p r₁ σ
    given = (f₁.matchers σ).0 f₁.is_lowest.reached.1

    past : (i : ℕ) → span_width * variable_count ≤ i → get_or r₁.spans i 0 ≡ get_or r₂.spans i 0
    past i l = x₁.leaves.other_spans _ f₁.answered i l ∙ inv (x₂.leaves.other_spans _ f₂.answered i l)

    counts : (v : ℕ) → position_count_lem r₁.spans v ≡ position_count_lem r₂.spans v
    counts = counts_alike T R p r₁ r₂ σ given (drawn σ given) (m₁.packed _ f₁.answered) (m₂.packed _ f₂.answered) past

    starts : (v : ℕ) → first_position_lem r₁.spans v ≡ first_position_lem r₂.spans v
    starts = starts_alike T R p r₁ r₂ σ given (drawn σ given) (m₁.packed _ f₁.answered) (m₂.packed _ f₂.answered) past

    own_highest_lem-is : (v : ℕ) → v < variable_count → own_highest_lem r₁.spans v ≤ own_highest_lem r₂.spans v
    own_highest_lem-is v l = go (stands v p) refl
      where
        go : (b : Bool) → stands v p ≡ b → own_highest_lem r₁.spans v ≤ own_highest_lem r₂.spans v
        go true s = own_highest_richer T R more L₁ L₂ cut p h v _ _ ((m₁.own_degrees _ _ f₁.answered).own_highest_lem-is v s) ((m₂.own_degrees _ _ f₂.answered).own_highest_lem-is v s)
        go false s = omega (arith, ((m₁.packed _ f₁.answered).absent v l s).3)

    lost : (v : ℕ) → v < variable_count → (position : ℕ) → InSpan r₁.spans v position → (x : ℕ) → x < set_room
        → holds r₁.sets position x ≡ true → holds r₂.sets position x ≡ true
    lost v l position i x small = go (position - first_position_lem r₁.spans v) (omega (arith, i.0)) (omega (arith, i.0, starts v)) (stands v p) refl
      where
        go : (k : ℕ) → first_position_lem r₁.spans v + k ≡ position → first_position_lem r₂.spans v + k ≡ position → (b : Bool) → stands v p ≡ b
            → holds r₁.sets position x ≡ true → holds r₂.sets position x ≡ true
        go k at₁ at₂ false s q = absurd (omega (arith, i.0, i.1, ((m₁.packed _ f₁.answered).absent v l s).1))
        go k at₁ at₂ true s q =
            let one = (m₁.sets_and_degrees _ _ f₁.answered).sets v s k (omega (arith, at₁, i.1)) x small in
            let two = (m₂.sets_and_degrees _ _ f₂.answered).sets v s k (omega (arith, at₁, i.1, counts v)) x small in
            let near = one.0 (ap (λ n. holds r₁.sets n x) at₁ ∙ q) in
            ap (λ n. holds r₂.sets n x) (inv at₂) ∙ two.1 (omega (arith, near.0, more.same_size), near_richer T R more cut (facing v (faces p h)) k x near.1)

    still : StillAnswers T R p r₁ r₂
    still =
        record {
          answers = (_, f₂.answered);
          highest_not_lower =
              omega (arith, ap highest_in f₁.answered, ap highest_in f₂.answered, highest_richer T R more L₁ L₂ cut p h _ _ f₁.is_highest f₂.is_highest);
          same_start = λ v l. starts v;
          same_count = λ v l. counts v;
          own_highest_not_lower = own_highest_lem-is;
          no_symbol_lost = lost;
          drawn = drawn;
        }

  -- THEOREM: a richer table loses nothing
  pub loses_nothing : LosesNothing table₁ table₂ pattern heading cut r₁ r₂
  loses_nothing =
      record {
        p = p;
        h = h;
        writes_pattern₁ = d₁.writes_pattern;
        writes_pattern₂ = writes_pattern₂;
        writes_heading₁ = d₁.writes_heading;
        writes_heading₂ = writes_heading₂;
        matchers = stay;
        answered = still;
      }

-- THEOREM: with the same buffers, an answer stays one if the richer file is a table
pub stays_answered : (table₁ table₂ pattern heading : List ℕ) (cut : ℕ) (spans sets : List ℕ) (r₁ r₂ : Matched) → Richer (table_in table₁) (table_in table₂) → SoundFile table₂
    → Stated table₁ pattern heading cut spans sets r₁ → Stated table₂ pattern heading cut spans sets r₂
    → (d : Degrees) → r₁.answer ≡ gives d → (e : Degrees) × (r₂.answer ≡ gives e)
stays_answered table₁ table₂ pattern heading cut spans sets r₁ r₂ more s₂ x₁ x₂ d e =
    let a₁ = answered_accepted table₁ pattern heading cut spans sets r₁ x₁ d e in
    let a₂ = accepted_again table₁ table₂ s₂ more pattern heading cut spans sets a₁ in
    ((loses_nothing table₁ table₂ pattern heading cut spans sets spans sets r₁ r₂ more x₁ x₂ a₁ a₂).answered d e).answers
