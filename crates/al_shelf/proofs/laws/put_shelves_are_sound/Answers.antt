use Rattle.al_shelf.proofs.Puts.{put_sound}
use Rattle.al_shelf.proofs.laws.put_shelves_are_sound.Goals as goal

pub returns : goal.returns
returns c = put_sound
