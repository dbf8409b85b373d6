-- What the bytes not read yet write behind the number so far is what all write.
use Rattle.std.proofs.Common.{◌≡◌, ◌-◌, ◌^◌, ◌<◌, length}
use Rattle.marc.specs.Frame.{digits_at, value_at}
use Rattle.marc_record.proofs.number.number.Given as goal

abbrev pub invariant-loop-byte : goal.invariant-loop-byte
invariant-loop-byte l =
    (digits_at l.bytes l.byte-index (length l.bytes - l.byte-index) ≡ digits_at l.bytes 0 (length l.bytes))
    × (value_at l.bytes l.byte-index (length l.bytes - l.byte-index) l.number ≡ value_at l.bytes 0 (length l.bytes) 0)
    × (l.number < 10 ^ l.byte-index)
