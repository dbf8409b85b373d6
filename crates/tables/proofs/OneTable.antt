-- The promises of the calls on tables allow one answer each: two answers that say the same are the same, since a refusal's number and place
-- name its case and a value is told as it is.
use mathlib.Core.Path.{◌≡◌, refl, sym, ap, ◌∙◌}
use mathlib.Core.List.{List}
use Prim.Native.Nat.{ℕ}
use Rattle.theory.specs.Pairs.{Pair as Listing, pair}
use Rattle.meaning.specs.Calls.{Answer, refused, gives, aye}
use Rattle.std.specs.Prelude.{Result, Ok, Err}
use Rattle.refusal.specs.declared.Refusal.{Refusal}
use Rattle.refusal.proofs.One.{one_refusal, gives_none}
use Rattle.table.specs.Read.{pair_in}
use Rattle.table.specs.declared.read.Pair.{Pair}
use Rattle.tables.specs.Tables.{said_as, said_degree, IsTable, SymbolDegree, ArityOf, PairAt}

-- where what was asked for is told as it is
module _ {A B : Type 0} (meant : A → B) (told : (x y : A) → gives (meant x) ≡ gives (meant y) → x ≡ y) where
  one_said : (r s : Result A Refusal) → said_as meant r ≡ said_as meant s → r ≡ s
  one_said (Ok a) (Ok b) e = ap Ok (told a b e)
  one_said (Ok a) (Err why) e = absurd (gives_none why _ (sym e))
  one_said (Err why) (Ok b) e = absurd (gives_none why _ e)
  one_said (Err why) (Err other) e = ap Err (one_refusal B why other e)

one_unit : (x y : Unit {0}) → gives aye ≡ gives aye → x ≡ y
one_unit x y e = refl

one_number : (m n : ℕ) → gives m ≡ gives n → m ≡ n
one_number m n e = cc

abbrev struct_of : Answer Listing → Pair
struct_of (gives (pair lower higher degree)) = record { lower = lower; higher = higher; degree = degree }
struct_of (refused n place) = record { lower = 0; higher = 0; degree = 0 }

one_pair : (p q : Pair) → gives (pair_in p) ≡ gives (pair_in q) → p ≡ q
one_pair p q e = ap struct_of e

pub one_said_degree : (r s : Result ℕ Refusal) → said_degree r ≡ said_degree s → r ≡ s
one_said_degree = one_said (λ n. n) one_number

-- THEOREM: any two answers that a promise allows are equal
pub one_table : (table : List ℕ) (r s : Result (Unit {0}) Refusal) → IsTable table r → IsTable table s → r ≡ s
one_table table r s p q = one_said (λ u. aye) one_unit r s (p ∙ sym q)

pub one_symbol_degree : (table : List ℕ) (a b : ℕ) (r s : Result ℕ Refusal) → SymbolDegree table a b r → SymbolDegree table a b s → r ≡ s
one_symbol_degree table a b r s p q = one_said_degree r s (p ∙ sym q)

pub one_arity : (table : List ℕ) (symbol : ℕ) (r s : Result ℕ Refusal) → ArityOf table symbol r → ArityOf table symbol s → r ≡ s
one_arity table symbol r s p q = one_said (λ n. n) one_number r s (p ∙ sym q)

pub one_pair_at : (table : List ℕ) (index : ℕ) (r s : Result Pair Refusal) → PairAt table index r → PairAt table index s → r ≡ s
one_pair_at table index r s p q = one_said pair_in one_pair r s (p ∙ sym q)
