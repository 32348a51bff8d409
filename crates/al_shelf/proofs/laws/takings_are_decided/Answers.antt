use Rattle.al_shelf.proofs.TakingLaws.{decides_takes}
use Rattle.al_shelf.proofs.laws.takings_are_decided.Goals as goal

pub returns : goal.returns
returns c = decides_takes
