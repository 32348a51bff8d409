use Rattle.al_input.proofs.WordLemmas.{state_read}
use Rattle.al_input.proofs.word.OperatorStateWord.of.Goals as goal

pub returns : goal.returns
returns c = state_read c.args.text.now c.read.result c.read.ensures
