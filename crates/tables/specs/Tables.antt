-- The calls on a table: what an answer says, and what each call promises for everything that can be lent to it. A refusal says
-- its number and its place; an answer says what the meaning has for the call.
use Rattle.std.specs.Prelude.{◌≡◌, List, ℕ, Result, Ok, Err}
use Rattle.theory.specs.Pairs.{Pair as Listing}
use Rattle.meaning.specs.Calls.{Answer, gives, Yes, aye, is_table_lem, symbol_degree_lem, arity_back, pair_back}
use Rattle.refusal.specs.Told.{refused_by}
use Rattle.refusal.specs.declared.Refusal.{Refusal}
use Rattle.table.specs.Read.{pair_in}
use Rattle.table.specs.declared.read.Pair.{Pair}

-- What an answer says, where `meant` takes what was asked for to the meaning's words.
abbrev pub said_as : {A B : Type 0} → (A → B) → Result A Refusal → Answer B
said_as meant (Ok a) = gives (meant a)
said_as meant (Err why) = refused_by why

-- ---- 1. Is this a table?

abbrev pub said_table : Result (Unit {0}) Refusal → Answer Yes
said_table r = said_as (λ u. aye) r

abbrev pub IsTable : List ℕ → Result (Unit {0}) Refusal → Type 0
IsTable table r = said_table r ≡ is_table_lem table

-- ---- 2. The degree of two symbol numbers.

abbrev pub said_degree : Result ℕ Refusal → Answer ℕ
said_degree r = said_as (λ n. n) r

abbrev pub SymbolDegree : List ℕ → ℕ → ℕ → Result ℕ Refusal → Type 0
SymbolDegree table a b r = said_degree r ≡ symbol_degree_lem table a b

-- ---- 8. The arity of a symbol, and the pair at an index, read back.

abbrev pub said_arity : Result ℕ Refusal → Answer ℕ
said_arity r = said_as (λ n. n) r

abbrev pub ArityOf : List ℕ → ℕ → Result ℕ Refusal → Type 0
ArityOf table symbol r = said_arity r ≡ arity_back table symbol

abbrev pub said_pair : Result Pair Refusal → Answer Listing
said_pair r = said_as pair_in r

abbrev pub PairAt : List ℕ → ℕ → Result Pair Refusal → Type 0
PairAt table index r = said_pair r ≡ pair_back table index
