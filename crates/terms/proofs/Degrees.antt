-- The degree of two headings, of lists as they are lent. Their terms' lists are the lists themselves, so the degree is the least over the
-- positions of both: a loop that keeps the least so far has it at the end, and has it at once where a position has none.
use mathlib.Core.Path.{◌≡◌, refl, sym, ap, ap₂, ◌∙◌}
use mathlib.Core.List.{List}
use Prim.Native.Nat.{ℕ, zero, suc, ◌+◌, ◌≤◌, ◌<◌, min}
use native.Mathlib.Numerals.{add-one}
use native.Mathlib.Omega.{arith}
use lib.ListN.{length, get_or, drop}
use lib.Seq.{drop-cons}
use Rattle.theory.specs.Tree.{enc}
use Rattle.theory.specs.Table.{Table, Over}
use Rattle.theory.specs.Decode.{term_of}
use Rattle.theory.specs.Match.{at}
use Rattle.theory.proofs.Flat.{flat, flat_top, degree_flat, degree_top, reach_size}
use Rattle.theory.proofs.More.{degree_itself, degree_either}
use Rattle.theory.proofs.Decoding.{heading_of_lem}
use Rattle.theory.proofs.Draw.{over-at}
use Rattle.meaning.specs.File.{table_in}
use Rattle.meaning.specs.Refusals.{SoundFile}
use Rattle.meaning.proofs.Sound.{sound}
use Rattle.meaning.proofs.Drawn.{get_d_any}
use Rattle.terms.specs.Degrees.{Heading, degree_of}

-- At index i of a loop over both lists: the lesser of `least` and what is left of them from there on is their degree.
pub record Left (T : Table) (one two : List ℕ) (i least : ℕ) : Type 0 where
  pub inside : i ≤ length one
  pub bounded : least ≤ 1000
  pub lesser : min least (flat T.deg (drop i one) (drop i two)) ≡ degree_of T one two

module _ (file : List ℕ) (s : SoundFile file) where
  abbrev T : Table
  T = table_in file

  written : (xs : List ℕ) → Heading T xs → Over T (term_of T xs) × (xs ≡ enc (term_of T xs))
  written = heading_of_lem T (omega (arith, (sound file s).small))

  -- LAW: each node of a heading is a symbol
  pub node_symbol : (xs : List ℕ) → Heading T xs → (i : ℕ) → i < length xs → get_or xs i 0 < T.size
  node_symbol xs h i l =
      let t = term_of T xs in
      let w = written xs h in
      let m : i < length (enc t) = omega (arith, ap length w.1) in
      let e : get_or xs i 0 ≡ at T t i = ap (λ (l : List ℕ). get_or l i 0) w.1 ∙ get_d_any (enc t) i 0 T.size m in
      omega (arith, over-at T t w.0 i m)

  -- LAW: the degree of two headings is the same in either order
  pub headings_either : (one two : List ℕ) → degree_of T one two ≡ degree_of T two one
  headings_either one two = degree_either T (sound file s).lawful (term_of T one) (term_of T two)

  -- LAW: .. at most 1000
  pub headings_top : (one two : List ℕ) → degree_of T one two ≤ 1000
  headings_top one two = degree_top T (sound file s).lawful (term_of T one) (term_of T two)

  -- LAW: .. and 1000 of a heading with itself
  pub heading_itself : (one : List ℕ) → Heading T one → degree_of T one one ≡ 1000
  heading_itself one h = degree_itself T (sound file s).lawful (term_of T one) (written one h).0

  module _ (one two : List ℕ) (h : Heading T one) (k : Heading T two) where
    -- LAW: headings of unlike length have degree 0
    pub unlike : (length one ≡ length two → ⊥) → 0 ≡ degree_of T one two
    unlike n = go (degree_of T one two) refl
      where
        go : (d : ℕ) → degree_of T one two ≡ d → 0 ≡ degree_of T one two
        go zero e = sym e
        go (suc d) e =
            let a = written one h in
            let b = written two k in
            absurd (n (ap length a.1 ∙ reach_size T (sound file s).lawful (term_of T one) (term_of T two) a.0 b.0 (omega arith) ∙ sym (ap length b.1)))

    -- before the first position all is left
    pub all_left : Left T one two 0 1000
    all_left =
        let a = written one h in
        let b = written two k in
        let e = degree_flat T (sound file s).lawful (term_of T one) (term_of T two) a.0 b.0 in
        let l : min 1000 (flat T.deg one two) ≡ degree_of T one two = omega (arith, flat_top T.deg one two, ap₂ (flat T.deg) a.1 b.1, e) in
        record { inside = omega arith; bounded = omega arith; lesser = l }

module _ (T : Table) (one two : List ℕ) (i least : ℕ) (left : Left T one two i least) where
  -- one position more
  pub one_less : (d least' : ℕ) → i < length one → i < length two → d ≡ T.deg (get_or one i 0) (get_or two i 0) → least' ≡ min d least → Left T one two (i + 1) least'
  one_less d least' l m e e' =
      let q : flat T.deg (drop i one) (drop i two) ≡ min (T.deg (get_or one i 0) (get_or two i 0)) (flat T.deg (drop (i + 1) one) (drop (i + 1) two)) = rw (add-one i, drop-cons one i 0 l, drop-cons two i 0 m) refl in
      record { inside = omega arith; bounded = omega (arith, left.bounded); lesser = omega (arith, left.lesser, q) }
