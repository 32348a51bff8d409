use Rattle.std.proofs.Common.{◌≡◌, drop, map}
use Rattle.al_input.specs.Members.{is_among}
use Rattle.al_input.proofs.member.is_among.Given as goal

abbrev pub invariant-loop-other : goal.invariant-loop-other
invariant-loop-other l =
    is_among (map (λ name. name.now) (drop l.other-index l.known)) l.name ≡ is_among (map (λ name. name.now) l.known) l.name
