-- What `position` finds among the chunks of a list.
use Rattle.std.proofs.Common.{◌≡◌, sym, ap, ◌∙◌, List, [], ◌∷◌, Option, Some, None, Bool, true, false, ℕ, ◌+◌, ◌*◌, ◌/◌, ◌<◌, length, take, drop, Bor, MatchOption, arith}
use Rattle.std.specs.Bool.{IsTrue}
use Rattle.std.specs.Option.{IfSome, IsSomeAnd, option_map}
use Rattle.std.specs.Iterator.Runs.{Run, IsChunksExactRun, AllItemsGive, IsFirstToGive, CallKeepsClosure}
use denote.Param.Members.{Mut, Called}

head : {A : Type 0} (xs : List A) (k : ℕ) → k < length xs → A
head [] k l = absurd (omega arith)
head (x ∷ xs) k l = x

both : {A : Type 0} (o : Option A) (P Q : A → Type 0) (y : A) → option_map (λ y. y) o ≡ Some y → IfSome o P → IfSome o Q → (x : A) × P x × Q x
both None P Q y e p q = cc
both (Some x) P Q y e p q = (x, p, q)

if_some : {A : Type 0} (o : Option A) (P : A → Type 0) → IsSomeAnd o P → IfSome o P
if_some (Some x) P p = p
if_some None P p = absurd p

module _ {S F : Type 0} {steps : S → Option (Bor (List ℕ)) → S → Type 0} (u : Run steps) (xs : List ℕ) (chunks : IsChunksExactRun u 12 xs)
    (g : Mut F (Bor (List ℕ) × Unit {0}) Bool) (f : F) (test : List ℕ → Bool) (answers : (a : Bor (List ℕ) × Unit {0}) (b : Bool) (h : F) → Called g f a b h → (h ≡ f) × (b ≡ test a.0.now)) where
  tested : (k : ℕ) (b : Bool) → k < u.len → IfSome (u.at k) (λ x. Called g f (x, tt) b f) → test (take 12 (drop (k * 12) xs)) ≡ b
  tested k b l h =
      let d = head u.items k (omega (arith, u.long)) in
      let i = both (u.at k) _ _ _ (u.reads k d l) h (chunks.2 k) in
      ap test (sym i.2.2.0) ∙ sym (answers (i.0, tt) b f i.1).1

  keeps : CallKeepsClosure g f
  keeps a b h e = (answers a b h e).0

  -- LAW: the first chunk that passes
  pub first_chunk : (r : Option ℕ) → MatchOption r (IsTrue u.whole × AllItemsGive u g f false) (λ i. (u.len ≡ i + 1) × IsFirstToGive u g f true false i)
      → MatchOption r ((k : ℕ) → k < length xs / 12 → test (take 12 (drop (k * 12) xs)) ≡ false)
      (λ i. (i < length xs / 12) × (test (take 12 (drop (i * 12) xs)) ≡ true) × ((k : ℕ) → k < i → test (take 12 (drop (k * 12) xs)) ≡ false))
  first_chunk None h = λ k l. tested k false (omega (arith, chunks.1 h.0)) (h.1 keeps k)
  first_chunk (Some i) h =
      let first = h.1 keeps in (
        omega (arith, chunks.0),
        tested i true (omega arith) (if_some (u.at i) (λ x. Called g f (x, tt) true f) first.0),
        λ k l. tested k false (omega arith) (if_some (u.at k) (λ x. Called g f (x, tt) false f) (first.1 k l)),
      )
