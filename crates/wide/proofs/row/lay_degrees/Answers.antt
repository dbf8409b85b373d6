-- Its row and its chain have all degrees but that with itself, which is put in last.
use mathlib.Core.Path.{◌≡◌, sym, ◌∙◌}
use mathlib.Core.List.{List}
use Prim.Native.Nat.{ℕ, ◌≤◌, ◌<◌}
use native.Mathlib.Decide.{ℕ_discrete}
use native.Mathlib.Omega.{arith}
use lib.ListN.{length, get_or, set}
use lib.Seq.{get_or-set_same, get_or-set_other}
use Rattle.theory.specs.Table.{Table, Lawful}
use Rattle.meaning.specs.File.{table_in}
use Rattle.meaning.proofs.Sound.{sound}
use Rattle.wide.proofs.row.lay_degrees.Goals as goal

-- LAW: with its degree with itself
with_itself : (T : Table) → Lawful T → (a : ℕ) (row : List ℕ) → a < T.size → T.size ≤ length row → ((s : ℕ) → s < T.size → (s ≡ a → ⊥) → get_or row s 0 ≡ T.deg s a)
    → (s : ℕ) → s < T.size → get_or (set row a 1000) s 0 ≡ T.deg s a
with_itself T lawful a row m room others s l = go (ℕ_discrete s a)
  where
    go : Dec (s ≡ a) → get_or (set row a 1000) s 0 ≡ T.deg s a
    go (yes e) = rw e (get_or-set_same row a 1000 0 (omega arith) ∙ sym (lawful.itself a m))
    go (no n) = get_or-set_other row a s 1000 0 n ∙ others s l n

pub returns : goal.returns
returns c =
    let t = c.args.table in
    let row = c.lay_chain.new.row in
    let long : length row ≡ length c.args.row.now = c.lay_chain.auto.row ∙ c.lay_row.auto.row in
    with_itself (table_in t.file.now) (sound t.file.now t.sound).lawful c.args.a row c.requires.1 (omega (arith, c.requires.2, long)) c.lay_chain.ensures
