-- The words are those at the position, and the symbols below the next one to be looked at stand in the line.
use mathlib.Core.Path.{◌≡◌}
use Prim.Native.Nat.{ℕ, ◌+◌, ◌*◌, ◌≤◌, ◌<◌}
use lib.ListN.{get_or}
use Rattle.meaning.specs.Limits.{set_words_lem, set_room}
use Rattle.text.specs.Texts.{PutBy}
use Rattle.lines.proofs.Joined.{symbols_below}
use Rattle.lines.proofs.line.put_symbols.Given as goal

abbrev pub invariant-loop-k : goal.invariant-loop-k
invariant-loop-k l =
    ((w : ℕ) → w < set_words_lem → get_or l.k-iterator.words.now w 0 ≡ get_or l.sets (set_words_lem * l.position + w) 0)
    × (l.k-iterator.end ≡ set_room) × (l.start ≡ l.initial.text.used) × (l.text.used ≤ l.start + 6 * l.k-iterator.from)
    × PutBy l.initial.text (symbols_below l.sets l.position l.k-iterator.from) l.text
