use Rattle.std.proofs.Common.{◌≡◌, drop}
use Rattle.std.specs.List.{list_any}
use Rattle.al_base.proofs.repeats.is_in.Given as goal

abbrev pub invariant-loop-other : goal.invariant-loop-other
invariant-loop-other g l =
    list_any (g.T.PartialEq.eq l.value) (drop l.other-index l.values) ≡ list_any (g.T.PartialEq.eq l.value) l.values
