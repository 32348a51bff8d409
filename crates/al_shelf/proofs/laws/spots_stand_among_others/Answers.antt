use Rattle.al_shelf.proofs.Puts.{spot_within}
use Rattle.al_shelf.proofs.laws.spots_stand_among_others.Goals as goal

pub returns : goal.returns
returns c = spot_within
