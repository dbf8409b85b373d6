-- One more string behind a list as it is lent is one more entry: no end lies behind the text, so that no other string reaches into what is put there.
use mathlib.Core.Path.{◌≡◌, refl, sym, ap, ap₂, ◌∙◌}
use mathlib.Core.List.{List, [], ◌∷◌, ◌++◌}
use Prim.Native.Nat.{ℕ, ◌+◌, ◌-◌, ◌≤◌}
use native.Mathlib.Omega.{arith}
use lib.ListN.{length, take, drop, length-append, length-drop}
use lib.Seq.{take_all, drop_at, take-append-le, drop-append-le}
use Rattle.theory.specs.Least.{All}
use Rattle.theory.proofs.Lemmas.{all_map, all_append}
use Rattle.marc.specs.Known.{Known, known, known_from, known_in}

-- where the next string begins
abbrev pub last_end : ℕ → List ℕ → ℕ
last_end start [] = start
last_end start (end ∷ ends) = last_end end ends

last_is : (start : ℕ) (ends : List ℕ) (end : ℕ) → last_end start (ends ++ (end ∷ [])) ≡ end
last_is start [] end = refl
last_is start (e ∷ ends) end = last_is e ends end

-- a list that is lent with a text that ends where its last string does
pub record Lent (text ends numbers : List ℕ) (ks : List Known) : Type 0 where
  pub is : known_in text ends numbers ≡ ks
  pub same : length ends ≡ length numbers
  pub inside : All (λ e. e ≤ length text) ends
  pub last : last_end 0 ends ≡ length text

module _ (text string : List ℕ) (number : ℕ) where
  known_more : (start : ℕ) (ends numbers : List ℕ) → length ends ≡ length numbers → start ≤ length text → All (λ e. e ≤ length text) ends → last_end start ends ≡ length text
      → known_from (text ++ string) start (ends ++ ((length text + length string) ∷ [])) (numbers ++ (number ∷ [])) ≡ known_from text start ends numbers ++ (known string number ∷ [])
  known_more start [] [] same begins inside last =
      let whole : drop start (text ++ string) ≡ string = drop_at text string start (sym last) in
      ap (λ s. known s number ∷ []) (ap (take (length text + length string - start)) whole ∙ take_all (length text + length string - start) string (omega arith))
  known_more start [] (n ∷ numbers) same begins inside last = absurd (omega arith)
  known_more start (e ∷ ends) [] same begins inside last = absurd (omega arith)
  known_more start (e ∷ ends) (n ∷ numbers) same begins inside last =
      let own : take (e - start) (drop start (text ++ string)) ≡ take (e - start) (drop start text) =
      ap (take (e - start)) (drop-append-le start text string begins) ∙ take-append-le (e - start) (drop start text) string (omega (arith, inside.0, length-drop start text)) in
      ap₂ (λ s ks. known s n ∷ ks) own (known_more e ends numbers (omega arith) inside.0 inside.1 last)

pub lent_none : Lent [] [] [] []
unfolding known_in
lent_none = record { is = refl; same = refl; inside = tt; last = refl }

-- LAW: one entry more
pub lent_more : {text ends numbers : List ℕ} {ks : List Known} → Lent text ends numbers ks → (string : List ℕ) (number : ℕ)
    → Lent (text ++ string) (ends ++ ((length text + length string) ∷ [])) (numbers ++ (number ∷ [])) (ks ++ (known string number ∷ []))
unfolding known_in
lent_more {text} {ends} {numbers} {ks} l string number =
    let longer : length (text ++ string) ≡ length text + length string = length-append text string in
    record {
      is = known_more text string number 0 ends numbers l.same (omega arith) l.inside l.last ∙ ap (λ k. k ++ (known string number ∷ [])) l.is;
      same = omega (arith, l.same, length-append ends ((length text + length string) ∷ []), length-append numbers (number ∷ []));
      inside = all_append _ ends ((length text + length string) ∷ []) (all_map ends (λ e m. omega (arith, longer)) l.inside) (omega (arith, longer), tt);
      last = last_is 0 ends (length text + length string) ∙ sym longer;
    }
