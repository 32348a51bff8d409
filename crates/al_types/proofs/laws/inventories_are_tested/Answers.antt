use Rattle.al_types.proofs.SoundTests.{decides_sound}
use Rattle.al_types.proofs.laws.inventories_are_tested.Goals as goal

pub returns : goal.returns
returns c = decides_sound
