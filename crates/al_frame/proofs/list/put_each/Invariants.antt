use Rattle.std.proofs.Common.{◌≡◌, ◌++◌, true, drop}
use Rattle.std.specs.List.{list_all}
use Rattle.al_frame.specs.Formats.{spelled_each}
use Rattle.al_frame.proofs.list.put_each.Given as goal

abbrev pub invariant-loop-value : goal.invariant-loop-value
invariant-loop-value g l =
    (l.out.items ++ spelled_each g.F.Field.format.spell (drop l.value-index l.values)
    ≡ l.initial.out.items ++ spelled_each g.F.Field.format.spell l.values)
    × (list_all g.F.Field.format.fits (drop l.value-index l.values) ≡ true)
