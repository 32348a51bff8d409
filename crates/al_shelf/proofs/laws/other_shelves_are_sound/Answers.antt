use Rattle.al_shelf.proofs.Puts.{others_sound}
use Rattle.al_shelf.proofs.laws.other_shelves_are_sound.Goals as goal

pub returns : goal.returns
returns c = others_sound
