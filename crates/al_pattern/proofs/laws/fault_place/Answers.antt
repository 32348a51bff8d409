use Rattle.al_pattern.proofs.OneFault.{placed_exactly}
use Rattle.al_pattern.proofs.laws.fault_place.Goals as goal

pub returns : goal.returns
returns c = placed_exactly
