-- Texts that are put one behind the other are one text, and a number's digits are those that the library writes.
use mathlib.Core.Path.{◌≡◌, refl, sym, ap, ◌∙◌}
use mathlib.Core.List.{List, [], ◌∷◌, ◌++◌, append_assoc, append-nil}
use mathlib.Core.Bool.{Bool, true, false, cond}
use Prim.Native.Nat.{ℕ, zero, suc, ◌+◌, ◌-◌, ◌/◌, ◌%◌, ◌^◌, ◌≤◌, ◌<◌}
use native.Mathlib.Nat.{add-zero}
use native.Mathlib.Omega.{arith}
use lib.ListN.{length, take, drop, length-append}
use lib.Seq.{take_all}
use lib.Dec.{ltb}
use borrow.Author.Tests.{lt-ltb, le-ltb}
use borrow.Rule.Slice.PartMut.{put_mid}
use Rattle.std.specs.Fmt.{decimal}
use Rattle.std.proofs.lemmas.Fmt.{PrependsLastDigit, decimal_from_prepends, length-decimal-le}
use Rattle.std.proofs.lemmas.Slice.{put_mid-paste}
use Rattle.meaning.specs.Over.{over}
use Rattle.meaning.specs.Program.{digits}
use Rattle.meaning.proofs.Over.{over_none, over_next}
use Rattle.text.specs.declared.Text.{Text}
use Rattle.text.specs.Texts.{PutBy, numeral, long_numeral}

pub put_none : {text : Text} → PutBy text [] text
put_none {text} = record { same_buffer = refl; room = refl; ends = sym (add-zero _); written = over_none text.buffer.now text.used }

-- LAW: a text behind another
pub put_then : {a b d : Text} {xs ys : List ℕ} → PutBy a xs b → PutBy b ys d → PutBy a (xs ++ ys) d
put_then {a} {b} {d} {xs} {ys} p q =
    let e : length (xs ++ ys) ≡ length xs + length ys = length-append xs ys in
    let f : d.buffer.now ≡ over b.buffer.now (a.used + length xs) ys = q.written ∙ ap (λ i. over b.buffer.now i ys) p.ends in
    record {
      same_buffer = q.same_buffer ∙ p.same_buffer;
      room = q.room ∙ p.room;
      ends = omega (arith, p.ends, q.ends);
      written = over_next a.buffer.now a.used xs (length xs) ys p.written f refl (omega (arith, p.ends, p.room, b.inside));
    }

-- LAW: a part of a buffer is written over
pub over_part : (at k : ℕ) (a ys zs : List ℕ) → ys ≡ zs → length zs ≡ k → put_mid at k a ys ≡ over a at zs
unfolding over
over_part at k a ys zs e f =
    put_mid-paste at k a ys zs k e refl (sym f)
    ∙ ap (λ s. take at a ++ s ++ drop (at + k) a) (take_all k zs (omega arith))
    ∙ ap (λ n. take at a ++ zs ++ drop (at + n) a) (sym f)

-- LAW: the digits are those that the library writes
pub same_digits : (k n : ℕ) → 0 < k → n < 10 ^ k → n < 2 ^ 64 → decimal n ≡ digits k n []
same_digits k n some few l = sym (decimal_from_prepends digits by_last k n [] l (length-decimal-le k n some few l) ∙ append-nil _)
  where
    by_last : PrependsLastDigit digits
    by_last = record { one = λ j m acc s. rw (lt-ltb m 10 s); more = λ j m acc s. rw (le-ltb m 10 s) }

pub same_numeral : (n : ℕ) → n < 2 ^ 16 → decimal n ≡ numeral n
unfolding numeral
same_numeral n l = same_digits 5 n (omega arith) (omega arith) (omega arith)

pub same_long : (n : ℕ) → n < 2 ^ 64 → decimal n ≡ long_numeral n
unfolding long_numeral
same_long n l = same_digits 20 n (omega arith) (omega arith) l

-- ---- digits with others before or behind them

pub digits_front : (k n : ℕ) (text : List ℕ) → digits k n text ≡ digits k n [] ++ text
digits_front zero n text = refl
digits_front (suc k) n text = go (ltb n 10) (digits_front k (n / 10))
  where
    d : ℕ
    d = 48 + n % 10

    go : (low : Bool) → ((t : List ℕ) → digits k (n / 10) t ≡ digits k (n / 10) [] ++ t)
        → cond low ((48 + n) ∷ text) (digits k (n / 10) (d ∷ text)) ≡ cond low ((48 + n) ∷ []) (digits k (n / 10) (d ∷ [])) ++ text
    go true rest = refl
    go false rest = rest (d ∷ text) ∙ sym (append_assoc (digits k (n / 10) []) (d ∷ []) text) ∙ ap (λ t. t ++ text) (sym (rest (d ∷ [])))

-- LAW: a number below ten has one digit
pub digits_one : (most n : ℕ) → 0 < most → n < 10 → digits most n [] ≡ (48 + n) ∷ []
digits_one zero n l m = absurd (omega arith)
digits_one (suc k) n l m = rw (lt-ltb n 10 m)

-- LAW: any other has those of its tenth, and one more
pub digits_more : (most n : ℕ) → 0 < most → 10 ≤ n → digits most n [] ≡ digits (most - 1) (n / 10) [] ++ ((48 + n % 10) ∷ [])
digits_more zero n l m = absurd (omega arith)
digits_more (suc k) n l m =
    let e : suc k - 1 ≡ k = omega arith in
    rw (le-ltb n 10 m, e) (digits_front k (n / 10) ((48 + n % 10) ∷ []))
