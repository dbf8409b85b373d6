-- The match's promise allows one answer and one later content of each buffer, and what it allows meets the demands on a match: the promise is
-- the meaning's equation, of which both are known.
use mathlib.Core.Path.{◌≡◌, sym, ap, ap₂, ◌∙◌, subst}
use mathlib.Core.List.{List}
use Prim.Native.Nat.{ℕ, ◌≤◌}
use Rattle.std.specs.Prelude.{Result, Ok, Err}
use Rattle.meaning.specs.Calls.{Degrees as Given, match_call}
use Rattle.meaning.specs.Demands.{Accepted, Demand2, Demand3}
use Rattle.meaning.proofs.Matched.{demand2}
use Rattle.meaning.proofs.Cuts.{demand3}
use Rattle.refusal.proofs.One.{one_refusal, gives_none}
use Rattle.refusal.specs.Outcomes.{said_match, result_of}
use Rattle.matching.proofs.Searched.{same-matched}
use Rattle.refusal.specs.declared.Degrees.{Degrees}
use Rattle.refusal.specs.declared.Refusal.{Refusal}
use Rattle.matches.specs.Matching.{MatchHeading}

same_degrees : {d d' : Degrees} → d.lowest ≡ d'.lowest → d.highest ≡ d'.highest → d ≡ d'
same_degrees e f = ap₂ (λ low high. record { lowest = low; highest = high }) e f

one_said : (r s : Result Degrees Refusal) → said_match r ≡ said_match s → r ≡ s
one_said (Ok d) (Ok d') e = ap Ok (same_degrees (cc) (cc))
one_said (Ok d) (Err why) e = absurd (gives_none why _ (sym e))
one_said (Err why) (Ok d) e = absurd (gives_none why _ e)
one_said (Err why) (Err other) e = ap Err (one_refusal Given why other e)

module _ (table pattern heading : List ℕ) (cut : ℕ) (spans sets : List ℕ) where
  -- THEOREM: any two results that the promise allows are equal, and so are the later buffers
  pub one_match : (r r' : Result Degrees Refusal) (s s' t t' : List ℕ)
      → MatchHeading table pattern heading cut spans sets r s t → MatchHeading table pattern heading cut spans sets r' s' t'
      → (r ≡ r') × (s ≡ s') × (t ≡ t')
  one_match r r' s s' t t' p q =
      (one_said r r' (p.answers ∙ sym q.answers), p.spans_later ∙ sym q.spans_later, p.sets_later ∙ sym q.sets_later)

  -- what the promise allows is the meaning's match
  match_is : {r : Result Degrees Refusal} {s t : List ℕ} → MatchHeading table pattern heading cut spans sets r s t → match_call table pattern heading cut spans sets ≡ result_of r s t
  match_is p = same-matched (sym p.answers) (sym p.spans_later) (sym p.sets_later)

  -- THEOREM: it meets demand 2
  pub meets_two : Accepted table pattern heading cut spans sets
      → (r : Result Degrees Refusal) (s t : List ℕ) → MatchHeading table pattern heading cut spans sets r s t → Demand2 table pattern heading cut (result_of r s t)
  meets_two a r s t p = subst (λ m. Demand2 table pattern heading cut m) (match_is p) (demand2 table pattern heading cut spans sets a)

-- THEOREM: two calls at two cuts meet demand 3
module _ (table pattern heading : List ℕ) (cut₁ : ℕ) (spans₁ sets₁ : List ℕ) (cut₂ : ℕ) (spans₂ sets₂ : List ℕ) where
  pub meets_three : cut₁ ≤ cut₂ → Accepted table pattern heading cut₁ spans₁ sets₁ → Accepted table pattern heading cut₂ spans₂ sets₂
      → (r₁ r₂ : Result Degrees Refusal) (s₁ s₂ t₁ t₂ : List ℕ)
      → MatchHeading table pattern heading cut₁ spans₁ sets₁ r₁ s₁ t₁ → MatchHeading table pattern heading cut₂ spans₂ sets₂ r₂ s₂ t₂
      → Demand3 table pattern heading cut₁ (result_of r₁ s₁ t₁) cut₂ (result_of r₂ s₂ t₂)
  meets_three up a₁ a₂ r₁ r₂ s₁ s₂ t₁ t₂ p₁ p₂ =
      let first = match_call table pattern heading cut₁ spans₁ sets₁ in
      let e₁ = match_is table pattern heading cut₁ spans₁ sets₁ p₁ in
      let e₂ = match_is table pattern heading cut₂ spans₂ sets₂ p₂ in
      subst (λ m. Demand3 table pattern heading cut₁ m cut₂ (result_of r₂ s₂ t₂)) e₁
      (subst (λ m. Demand3 table pattern heading cut₁ first cut₂ m) e₂ (demand3 table pattern heading cut₁ spans₁ sets₁ cut₂ spans₂ sets₂ up a₁ a₂))
