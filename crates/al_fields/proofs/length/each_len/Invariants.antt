-- The total, with the length of what remains, is the length of the whole.
use Rattle.std.proofs.Common.{◌≡◌, ◌+◌, ◌<◌, ◌^◌, drop, length}
use Rattle.json.specs.Print.{escape}
use Rattle.al_fields.specs.Lengths.{saturated}
use Rattle.al_fields.proofs.length.each_len.Given as goal

abbrev pub invariant-loop-byte : goal.invariant-loop-byte
invariant-loop-byte l =
    (saturated (l.total + length (escape (drop l.byte-index l.text))) ≡ saturated (length (escape l.text))) × (l.total < 2 ^ 64)
