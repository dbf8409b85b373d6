-- What going along a pattern and a heading together comes to.
use Rattle.std.specs.Prelude.{◌≡◌, List, ℕ, Result, Ok, Err}
use Rattle.std.proofs.Math.Option.{none, some as just}
use Rattle.theory.specs.Least.{least}
use Rattle.theory.specs.Match.{clash}
use Rattle.theory.specs.Stands.{Noted}
use Rattle.meaning.specs.File.{table_in}
use Rattle.meaning.specs.Calls.{faces_in}
use Rattle.meaning.specs.Search.{symbol_worth}

module _ (table : List ℕ) (cut : ℕ) (pattern heading : List ℕ) where
  -- Nothing clashes, this is the least degree of a symbol with the one that faces it, and each variable's node has its note.
  pub record ClearBy (degree : ℕ) (notes : List ℕ) : Type 0 where
    pub clear : clash (table_in table) cut (faces_in table pattern heading) ≡ none
    pub lowest : degree ≡ least (symbol_worth (table_in table)) (faces_in table pattern heading)
    pub noted : Noted heading notes (faces_in table pattern heading)

  abbrev pub FacedBy : Result ℕ ℕ → List ℕ → Type 0
  FacedBy (Err i) notes = clash (table_in table) cut (faces_in table pattern heading) ≡ just i
  FacedBy (Ok degree) notes = ClearBy degree notes
