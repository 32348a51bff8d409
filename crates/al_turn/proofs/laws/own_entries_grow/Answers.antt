use Rattle.al_turn.proofs.Grows.{own_longer}
use Rattle.al_turn.proofs.laws.own_entries_grow.Goals as goal

pub returns : goal.returns
returns c = λ history front origin from within begins. own_longer front history origin from within begins
