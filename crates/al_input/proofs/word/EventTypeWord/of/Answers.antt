use Rattle.al_input.proofs.WordLemmas.{event_type_read}
use Rattle.al_input.proofs.word.EventTypeWord.of.Goals as goal

pub returns : goal.returns
returns c = event_type_read c.args.text.now c.read.result c.read.ensures
