-- Where a pair stands in the file of a table that was tested: behind the head and the arities, by the count of symbols that was read. So what is read there
-- is the pair's.
use mathlib.Core.Path.{◌≡◌, ap, ◌∙◌}
use Prim.Native.Nat.{ℕ, ◌+◌, ◌*◌, ◌/◌, ◌≤◌, ◌<◌}
use native.Mathlib.Omega.{arith}
use lib.ListN.{length}
use Rattle.meaning.specs.File.{number, symbol_count_lem, pair_count_lem}
use Rattle.meaning.specs.Tables.{lower_at, degree_at}
use Rattle.table.specs.Keys.{key_of}
use Rattle.table.specs.declared.sound_table.SoundTable.{SoundTable}
use Rattle.table.proofs.Reading.{size_is, pair_inside}
use Rattle.degrees.specs.Sought.{key_at, Between}

-- LAW: the middle of where a pair is sought is a pair's number
pub middle_below : (n low high : ℕ) → low < high → high ≤ n → (low + high) / 2 < n
middle_below n low high h l = omega arith

module _ (t : SoundTable) where
  start_is : 10 + t.symbols ≡ 10 + symbol_count_lem t.file.now
  start_is = omega (arith, t.symbols_are, size_is t.file.now t.sound)

  -- LAW: a pair's six bytes are in the file
  pub pair_placed : (k : ℕ) → k < pair_count_lem t.file.now → 10 + t.symbols + 6 * k + 6 ≤ length t.file.now
  pair_placed k l = omega (arith, start_is, pair_inside t.file.now t.sound k l)

  -- LAW: .. and so are those of the one in the middle of where a pair is sought
  pub middle_placed : (wanted low high : ℕ) → Between (key_at t.file.now) (pair_count_lem t.file.now) wanted low high → low < high
      → 10 + t.symbols + 6 * ((low + high) / 2) + 6 ≤ length t.file.now
  middle_placed wanted low high b l = pair_placed ((low + high) / 2) (middle_below _ low high l b.within)

  module _ (k found : ℕ) where
    -- LAW: its lower symbol, its key and its degree stand there
    pub lower_placed : found ≡ number t.file.now (10 + t.symbols + 6 * k) → found ≡ lower_at t.file.now k
    lower_placed e = e ∙ ap (λ at. number t.file.now (at + 6 * k)) start_is

    pub key_placed : found ≡ key_of (number t.file.now (10 + t.symbols + 6 * k)) (number t.file.now (10 + t.symbols + 6 * k + 2)) → found ≡ key_at t.file.now k
    key_placed e = e ∙ ap (λ at. key_of (number t.file.now (at + 6 * k)) (number t.file.now (at + 6 * k + 2))) start_is

    pub degree_placed : found ≡ number t.file.now (10 + t.symbols + 6 * k + 4) → found ≡ degree_at t.file.now k
    degree_placed e = e ∙ ap (λ at. number t.file.now (at + 6 * k + 4)) start_is
