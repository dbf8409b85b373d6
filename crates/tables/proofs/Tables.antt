-- What a check of the table refuses, a call on two symbols refuses.
use mathlib.Core.Path.{◌≡◌, sym}
use mathlib.Core.List.{List, [], ◌∷◌}
use mathlib.Core.Option.{some as just}
use Prim.Native.Nat.{ℕ}
use Rattle.meaning.specs.File.{symbol_count_lem}
use Rattle.meaning.specs.Refusals.{first, table_rows, row13}
use Rattle.meaning.specs.Calls.{symbol_rows, symbol_degree_lem}
use Rattle.refusal.specs.declared.Refusal.{Refusal}
use Rattle.refusal.specs.Told.{told, refused_by}
use Rattle.sound.proofs.Checks.{says_early}

-- LAW: the table's own fault comes before the symbols'
pub degree_refused : (table : List ℕ) (a b : ℕ) (why : Refusal) → just (told why) ≡ first (table_rows table) → refused_by why ≡ symbol_degree_lem table a b
unfolding symbol_rows symbol_degree_lem
degree_refused table a b why e = says_early _ _ (table_rows table) (row13 (symbol_count_lem table) a b ∷ []) (sym e)
