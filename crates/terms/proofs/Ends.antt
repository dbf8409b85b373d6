-- In a list that is a term a walk ends from every index: at every index there stands a subterm, no deeper than the whole, and it is a part of the list.
use mathlib.Core.Path.{◌≡◌, ap, ◌∙◌}
use mathlib.Core.List.{List, ◌++◌}
use mathlib.Core.Bool.{Bool}
use Prim.Native.Nat.{ℕ, ◌+◌, ◌≤◌, ◌<◌}
use native.Mathlib.Omega.{arith}
use lib.ListN.{length, drop, length-drop, length-append}
use Rattle.theory.specs.Tree.{Pattern, var, sym, encₚ}
use Rattle.theory.specs.Table.{Table}
use Rattle.theory.specs.Read.{reading, whole}
use Rattle.theory.proofs.Reading.{walk_enc}
use Rattle.theory.proofs.Decoding.{read_whole}
use Rattle.meaning.specs.File.{table_in}
use Rattle.meaning.specs.Refusals.{SoundFile}
use Rattle.meaning.proofs.Parts.{sub_at}
use Rattle.meaning.proofs.Sound.{sound}
use Rattle.terms.specs.Ends.{EndsIn}

some_node : (p : Pattern) → 0 < length (encₚ p)
some_node (var v) = omega arith
some_node (sym f ps) = omega arith

-- a part of a list that begins at i ends in the list
part_inside : (xs part rest : List ℕ) (i : ℕ) → i < length xs → drop i xs ≡ part ++ rest → i + length part ≤ length xs
part_inside xs part rest i l e = omega (arith, ap length e, length-drop i xs, length-append part rest)

ends_over : (T : Table) → T.size ≤ 32768 → (vars : Bool) (xs : List ℕ) → reading T vars xs ≡ whole → (i : ℕ) → i < length xs → EndsIn T vars xs i
ends_over T small vars xs e i l =
    let w = read_whole T small vars xs e in
    let s = sub_at T vars w.pattern w.fine i (omega (arith, ap length w.is)) in
    let here = ap (drop i) w.is ∙ s.here in
    record {
      end = i + length (encₚ s.q);
      walked = walk_enc T small vars xs s.q 64 (omega (arith, s.deep, w.deep)) s.fine i s.rest here;
      after = omega (arith, some_node s.q);
      inside = part_inside xs (encₚ s.q) s.rest i l here;
    }

-- LAW: in a list that is a term over a file's table, a subterm ends from every index
pub ends_in : (file : List ℕ) → SoundFile file → (vars : Bool) (xs : List ℕ) → reading (table_in file) vars xs ≡ whole → (i : ℕ) → i < length xs
    → EndsIn (table_in file) vars xs i
ends_in file s = ends_over (table_in file) (omega (arith, (sound file s).small))
