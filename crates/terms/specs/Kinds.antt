-- The kinds of node: symbols are the numbers below how many there are, and variables have the 32 numbers from 32768 on.
use Rattle.std.specs.Prelude.{◌&&◌, cond, ℕ, ◌-◌, ltb, leb}
use Rattle.terms.specs.declared.kind.Kind.{Kind}
use Rattle.terms.specs.declared.kind.Kind.TheVariants.{Symbol, Variable, Neither}

-- The kind of node x over s symbols.
unfoldable pub kind_of : ℕ → ℕ → Kind
kind_of s x =
    cond (ltb x s) (Symbol x) (cond (leb 32768 x && ltb x 32800) (Variable (x - 32768)) Neither)
