-- What gathering the notes of one variable comes to.
use Rattle.std.specs.Prelude.{List, ℕ, ◌≤◌, length}
use Rattle.theory.specs.Table.{Table}
use Rattle.theory.specs.Faces.{Face, facing}
use Rattle.theory.specs.Stands.{Gathered, Noted}
use Rattle.theory.proofs.Along.{Faced}

-- n notes are gathered for variable v: wherever `notes` are of the subterms that face the pattern's nodes, these are of those that face v.
pub record GatheredBy (pattern notes : List ℕ) (v n : ℕ) (own : List ℕ) : Type 0 where
  pub few : n ≤ length pattern
  pub gathered : (T : Table) (heading : List ℕ) (fs : List Face) → Faced T pattern fs (length pattern) → Noted heading notes fs
      → Gathered heading own n (facing v fs)
