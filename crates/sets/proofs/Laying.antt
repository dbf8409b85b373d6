-- A part of a list that is written anew, as long as what is written, is what was written laid over the list.
use Rattle.std.proofs.Common.{arith, ◌≡◌, List, ◌++◌, ℕ, ◌+◌, ◌-◌, length, drop, take, append_assoc, ap, ap₂, sym, ◌∙◌}
use borrow.Rule.Slice.PartMut.{put_mid}
use lib.Seq.{drop-drop}
use Rattle.meaning.specs.Over.{over}

pub part_over : (list : List ℕ) (at n : ℕ) (xs ys : List ℕ) → ys ≡ xs → length xs ≡ n → put_mid at (at + n - at) list ys ≡ over list at xs
unfolding over
part_over list at n xs ys e l =
    let k : at + n - at ≡ n = omega arith in
    ap₂ (λ k ws. put_mid at k list ws) k e
    ∙ sym (append_assoc (take at list) xs (drop n (drop at list)))
    ∙ ap (λ rest. take at list ++ xs ++ rest) (drop-drop n at list)
    ∙ ap (λ n. take at list ++ xs ++ drop (at + n) list) (sym l)
