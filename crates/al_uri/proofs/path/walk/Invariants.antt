use Rattle.std.proofs.Common.{◌≡◌}
use Rattle.std.specs.Option.{option_copied}
use Rattle.al_base.specs.Cuts.{pieces, pieces_left}
use Rattle.al_uri.specs.Paths.{walk, walk_rooted}
use Rattle.al_base.proofs.CutLemmas.{size_left}
use Rattle.al_uri.proofs.path.walk.Given as goal

-- the segments left, from the place so far
abbrev pub invariant-loop-rest : goal.invariant-loop-rest
invariant-loop-rest l = walk_rooted l.fn.from (pieces 47 l.path) ≡ walk l.place (pieces_left 47 (option_copied l.rest))

abbrev pub decreases-loop-rest : goal.decreases-loop-rest
decreases-loop-rest l = size_left l.rest
