use Rattle.std.proofs.Common.{◌≡◌, ◌+◌, ◌-◌, ◌<◌, ◌^◌, drop, length, min}
use Rattle.al_frame.specs.Formats.{spelled_each}
use Rattle.al_frame.proofs.list.each_len.Given as goal

abbrev pub invariant-loop-value : goal.invariant-loop-value
invariant-loop-value g l =
    (min (2 ^ 64 - 1) (l.total + length (spelled_each g.F.Field.format.spell (drop l.value-index l.values)))
    ≡ min (2 ^ 64 - 1) (length (spelled_each g.F.Field.format.spell l.values)))
    × (l.total < 2 ^ 64)
