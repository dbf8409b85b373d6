-- Where the tag tells the symbol, its degrees are at its place; else they are laid out there.
use Rattle.std.proofs.Common.{arith, ◌≡◌, ℕ, ◌+◌, ◌*◌, ◌%◌, ◌≤◌, length, get_or, ap, ap₂, sym, ◌∙◌}
use Rattle.meaning.specs.File.{table_in}
use Rattle.wide.specs.Index.{kept_rows, row_at}
use Rattle.wide.proofs.Keeping.{place_within}
use Rattle.wide.proofs.kept.kept_row.Goals as goal
use Rattle.wide.proofs.kept.kept_row.Goals.{After-tags-tags}

module _ (c : After-tags-tags) where
  -- its place among the places
  abbrev slot : ℕ
  slot = c.args.a % kept_rows

  from_is : c.tags-tags.result + kept_rows + slot * c.args.table.symbols ≡ row_at c.args.table.file.now slot
  from_is = ap₂ (λ tags n. tags + kept_rows + slot * n) c.tags-tags.ensures c.args.table.symbols_are

  within : row_at c.args.table.file.now slot + (table_in c.args.table.file.now).size ≤ length c.args.index.now
  within = place_within c.args.table.file.now c.args.index.now c.requires.1 c.requires.0.0.room slot (omega arith)

pub returns-then-index-tags : goal.returns-then-index-tags
returns-then-index-tags c =
    let start = (goal.at.returns-then-index-tags c).After-tags-tags in
    let index = c.args.index.now in
    let tells = ap (λ tags. get_or index (tags + slot start) 0) (sym c.tags-tags.ensures) ∙ c.if-index-tags.true in
    let degrees = c.requires.0.0.kept c.requires.0.1 c.requires.1 (slot start) c.args.a (omega arith) tells in
    (c.requires.0, λ t l. ap (λ from. get_or index (from + t) 0) (from_is start) ∙ degrees t l, omega (arith, from_is start, within start))

pub returns : goal.returns
returns c =
    let start = (goal.at.returns c).After-tags-tags in
    let kept = c.keep_row in
    (kept.ensures.0, kept.ensures.1, omega (arith, from_is start, within start, kept.auto.index))
