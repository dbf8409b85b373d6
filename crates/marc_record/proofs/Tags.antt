-- The first field with the tag 100 is that of the first entry in the directory that begins with 100.
use Rattle.std.proofs.Common.{◌≡◌, refl, sym, ap, ◌∙◌, List, Bool, true, false, ℕ, zero, suc, ◌+◌, ◌*◌, ◌-◌, ◌≤◌, ◌<◌, take, drop, eqb, arith}
use Rattle.std.proofs.Math.Option.{none, some as just}
use native.Mathlib.Decide.{dec_lt}
use Rattle.std.specs.Cmp.Lexicographic.{pointwise}
use Rattle.std.proofs.lemmas.Bool.{false≢true}
use Rattle.std.proofs.lemmas.List.{take-take, drop-take, drop-drop}
use Rattle.std.proofs.lemmas.Slice.Eq.{bytes_eq-Decides}
use Rattle.marc.specs.Frame.{entry_at, field_length, field_at, fields_from}
use Rattle.marc.specs.Known.{same}
use Rattle.marc.specs.Heading.{tag100, first_with}
use Rattle.marc.proofs.Strings.{true_same, not_same}
use Rattle.marc_record.specs.Directories.{tagged}

compares : (xs ys : List ℕ) → same xs ys ≡ pointwise eqb ys xs
compares xs ys = go (pointwise eqb ys xs) refl
  where
    go : (b : Bool) → pointwise eqb ys xs ≡ b → same xs ys ≡ pointwise eqb ys xs
    go true e = true_same xs ys (sym ((bytes_eq-Decides ys xs).0 e)) ∙ sym e
    go false e = not_same xs ys (λ q. false≢true (sym e ∙ (bytes_eq-Decides ys xs).1 (sym q))) ∙ sym e

-- LAW: an entry of the directory has the tag where its bytes in the record have it
pub tag_is : (r : List ℕ) (size k : ℕ) → k * 12 + 12 ≤ size → same (take 3 (drop (entry_at k) r)) tag100 ≡ tagged (take size (drop 24 r)) k
tag_is r size k l =
    let at : 24 + k * 12 ≡ entry_at k = omega arith in
    let fits : size ≡ k * 12 + (size - k * 12) = omega arith in
    let entry : drop (k * 12) (take size (drop 24 r)) ≡ take (size - k * 12) (drop (entry_at k) r) =
    ap (λ n. drop (k * 12) (take n (drop 24 r))) fits ∙ drop-take (k * 12) (size - k * 12) (drop 24 r) ∙ ap (take (size - k * 12)) (drop-drop (k * 12) 24 r ∙ ap (λ i. drop i r) at) in
    let tag : take 3 (take 12 (drop (k * 12) (take size (drop 24 r)))) ≡ take 3 (drop (entry_at k) r) =
    take-take 3 12 _ (omega arith) ∙ ap (take 3) entry ∙ take-take 3 (size - k * 12) (drop (entry_at k) r) (omega arith) in
    compares (take 3 (drop (entry_at k) r)) tag100 ∙ sym (ap (pointwise eqb tag100) tag)

module _ (r : List ℕ) where
  -- LAW: no entry has the tag
  pub no_field : (e n : ℕ) → ((k : ℕ) → e ≤ k → k < e + n → same (take 3 (drop (entry_at k) r)) tag100 ≡ false) → first_with tag100 (fields_from r e n) ≡ none
  unfolding first_with
  no_field e zero h = refl
  no_field e (suc n) h = rw (h e (omega arith) (omega arith)) (no_field (suc e) n (λ k m l. h k (omega arith) (omega arith)))

  -- LAW: the first that has it
  pub field_of : (e n i : ℕ) → e ≤ i → i < e + n → same (take 3 (drop (entry_at i) r)) tag100 ≡ true → ((k : ℕ) → e ≤ k → k < i → same (take 3 (drop (entry_at k) r)) tag100 ≡ false)
      → first_with tag100 (fields_from r e n) ≡ just (take (field_length r i - 1) (drop (field_at r i) r))
  unfolding first_with
  field_of e zero i m l t h = absurd (omega arith)
  field_of e (suc n) i m l t h = go (dec_lt e i) (λ p. field_of (suc e) n i p (omega arith) t (λ k q u. h k (omega arith) u))
    where
      go : Dec (e < i) → (e < i → first_with tag100 (fields_from r (suc e) n) ≡ just (take (field_length r i - 1) (drop (field_at r i) r))) → first_with tag100 (fields_from r e (suc n)) ≡ just (take (field_length r i - 1) (drop (field_at r i) r))
      go (yes p) rest = rw (h e (omega arith) p) (rest p)
      go (no p) rest = let here : e ≡ i = omega arith in rw (here, t)
