use Rattle.std.proofs.Common.{◌≡◌}
use Rattle.std.specs.Option.{option_copied}
use Rattle.al_base.specs.Cuts.{pieces_left}
use Rattle.al_uri.specs.Queries.{after_parts, no_parameters, not_empty}
use Rattle.al_base.proofs.CutLemmas.{size_left}
use Rattle.al_uri.proofs.query.read.Given as goal

-- the parts left, behind those so far
abbrev pub invariant-loop-rest : goal.invariant-loop-rest
invariant-loop-rest l = after_parts l.known no_parameters (pieces_left 38 (not_empty (option_copied l.fn.query))) ≡ after_parts l.known l.asked (pieces_left 38 (option_copied l.rest))

abbrev pub decreases-loop-rest : goal.decreases-loop-rest
decreases-loop-rest l = size_left l.rest
