-- What comes next is told by the bytes alone, and something does: the length stands in the first four, and how many bytes there are decides the
-- rest.
use mathlib.Core.Path.{◌≡◌, refl, sym, ap, ap₂, subst, ◌∙◌}
use mathlib.Core.List.{List, [], ◌∷◌, ◌++◌}
use Prim.Native.Nat.{ℕ, ◌≤◌, ◌<◌}
use native.Mathlib.Decide.{dec_lt}
use native.Mathlib.Omega.{arith}
use lib.ListN.{length, take, drop, length-append, take-append-drop}
use lib.Seq.{length-take-le, take_at, drop_at}
use Rattle.input.specs.Coming.{Coming, question, too_long_lem, cut_off_lem, ended, length_in, Follows, whole, over_long, short, Comes, nothing, no_length_lem, behind}

-- two ways to cut one list at one place
module _ (bytes front rest front' rest' : List ℕ) (e : bytes ≡ front ++ rest) (e' : bytes ≡ front' ++ rest') (n : ℕ) (k : length front ≡ n) (k' : length front' ≡ n) where
  same_front : front ≡ front'
  same_front = sym (take_at front rest n k) ∙ ap (take n) (sym e ∙ e') ∙ take_at front' rest' n k'

  same_rest : rest ≡ rest'
  same_rest = sym (drop_at front rest n k) ∙ ap (drop n) (sym e ∙ e') ∙ drop_at front' rest' n k'

longer : (bytes front rest : List ℕ) → bytes ≡ front ++ rest → length front ≤ length bytes
longer bytes front rest e = omega (arith, ap length e, length-append front rest)

pub follows_once : (count : ℕ) (bytes : List ℕ) (x y : Coming) → Follows count bytes x → Follows count bytes y → x ≡ y
follows_once count bytes _ _ (whole {asked} {left} e k s) (whole {asked = asked'} {left = left'} e' k' s') = ap₂ question (same_front bytes asked left asked' left' e e' count k k') (same_rest bytes asked left asked' left' e e' count k k')
follows_once count bytes _ _ (whole e k s) (over_long p e' k' l) = absurd (omega arith)
follows_once count bytes _ _ (whole {asked} {left} e k s) (short l) = absurd (omega (arith, longer bytes asked left e))
follows_once count bytes _ _ (over_long p e k l) (whole e' k' s) = absurd (omega arith)
follows_once count bytes _ _ (over_long p {left} e k l) (over_long p' {left = left'} e' k' l') = ap too_long_lem (same_rest bytes p left p' left' e e' count k k')
follows_once count bytes _ _ (over_long p {left} e k l) (short l') = absurd (omega (arith, longer bytes p left e))
follows_once count bytes _ _ (short l) (whole {asked} {left} e k s) = absurd (omega (arith, longer bytes asked left e))
follows_once count bytes _ _ (short l) (over_long p {left} e k l') = absurd (omega (arith, longer bytes p left e))
follows_once count bytes _ _ (short l) (short l') = refl

-- LAW: one thing comes next
pub comes_once : (bytes : List ℕ) (x y : Coming) → Comes bytes x → Comes bytes y → x ≡ y
comes_once bytes _ _ (nothing e) (nothing e') = refl
comes_once bytes _ _ (nothing e) (no_length_lem l m) = absurd (omega (arith, ap length e))
comes_once bytes _ _ (nothing e) (behind four rest e' k f) = absurd (omega (arith, ap length e, longer bytes four rest e'))
comes_once bytes _ _ (no_length_lem l m) (nothing e) = absurd (omega (arith, ap length e))
comes_once bytes _ _ (no_length_lem l m) (no_length_lem l' m') = refl
comes_once bytes _ _ (no_length_lem l m) (behind four rest e k f) = absurd (omega (arith, longer bytes four rest e))
comes_once bytes _ _ (behind four rest e k f) (nothing e') = absurd (omega (arith, ap length e', longer bytes four rest e))
comes_once bytes _ _ (behind four rest e k f) (no_length_lem l m) = absurd (omega (arith, longer bytes four rest e))
comes_once bytes x y (behind four rest e k f) (behind four' rest' e' k' f') =
    follows_once (length_in four) rest x y f
    (subst (λ s. Follows (length_in s) rest y) (sym (same_front bytes four rest four' rest' e e' 4 k k')) (subst (λ s. Follows (length_in four') s y) (sym (same_rest bytes four rest four' rest' e e' 4 k k')) f'))

-- ---- and something does

pub follows_some : (count : ℕ) (bytes : List ℕ) → (next : Coming) × Follows count bytes next
follows_some count bytes = by_length (dec_lt (length bytes) count) (dec_lt 65535 count)
  where
    by_length : Dec (length bytes < count) → Dec (65535 < count) → (next : Coming) × Follows count bytes next
    by_length (yes l) d = (cut_off_lem, short l)
    by_length (no enough) (yes l) = (too_long_lem (drop count bytes), over_long (take count bytes) (sym (take-append-drop count bytes)) (length-take-le count bytes (omega arith)) l)
    by_length (no enough) (no l) = (question (take count bytes) (drop count bytes), whole (sym (take-append-drop count bytes)) (length-take-le count bytes (omega arith)) (omega arith))

-- LAW
pub comes_some : (bytes : List ℕ) → (next : Coming) × Comes bytes next
comes_some [] = (ended, nothing refl)
comes_some (a ∷ []) = (cut_off_lem, no_length_lem (omega arith) (omega arith))
comes_some (a ∷ b ∷ []) = (cut_off_lem, no_length_lem (omega arith) (omega arith))
comes_some (a ∷ b ∷ c ∷ []) = (cut_off_lem, no_length_lem (omega arith) (omega arith))
comes_some (a ∷ b ∷ c ∷ d ∷ rest) =
    let four = a ∷ b ∷ c ∷ d ∷ [] in
    let found = follows_some (length_in four) rest in
    (found.0, behind four rest refl refl found.1)
