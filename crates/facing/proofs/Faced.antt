-- For one who has gone along both lists: what the answer's case says, and that the notes gathered for a variable are of all the subterms that
-- face it, since where nothing clashes every node of the pattern faces something.
use mathlib.Core.Path.{◌≡◌, subst}
use mathlib.Core.List.{List}
use mathlib.Core.Option.{some as just}
use Prim.Native.Nat.{ℕ, ◌<◌}
use lib.ListN.{length}
use Rattle.std.specs.Prelude.{Result, Ok, Err}
use Rattle.theory.specs.Faces.{facing}
use Rattle.theory.specs.Match.{clash}
use Rattle.theory.specs.Stands.{Gathered}
use Rattle.theory.proofs.Along.{Readable, Faced}
use Rattle.theory.proofs.Gathered.{faced}
use Rattle.meaning.specs.File.{table_in}
use Rattle.meaning.specs.Calls.{faces_in}
use Rattle.facing.specs.Faced.{ClearBy, FacedBy}
use Rattle.facing.specs.Gathering.{GatheredBy}

module _ (table : List ℕ) (cut : ℕ) (pattern heading notes : List ℕ) where
  -- LAW: a clash's place
  pub clash-told : {r : Result ℕ ℕ} {i : ℕ} → r ≡ Err i → FacedBy table cut pattern heading r notes → clash (table_in table) cut (faces_in table pattern heading) ≡ just i
  clash-told e f = subst (λ r. FacedBy table cut pattern heading r notes) e f

  -- LAW: nothing clashes
  pub clear_told : {r : Result ℕ ℕ} {d : ℕ} → r ≡ Ok d → FacedBy table cut pattern heading r notes → ClearBy table cut pattern heading d notes
  clear_told e f = subst (λ r. FacedBy table cut pattern heading r notes) e f

  module _ (r : Readable (table_in table) pattern heading) (pos : 0 < cut) {d : ℕ} (f : ClearBy table cut pattern heading d notes) where
    -- LAW: every node of the pattern faces something
    pub faced_in : Faced (table_in table) pattern (faces_in table pattern heading) (length pattern)
    unfolding faces_in
    faced_in = faced r cut pos f.clear

    -- LAW: what is gathered for a variable is of all the subterms that face it
    pub gathered_in : {v n : ℕ} {own : List ℕ} → GatheredBy pattern notes v n own
        → Gathered heading own n (facing v (faces_in table pattern heading))
    gathered_in g = g.gathered (table_in table) heading (faces_in table pattern heading) faced_in f.noted
