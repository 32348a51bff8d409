use Rattle.al_input.proofs.WordLemmas.{status_read}
use Rattle.al_input.proofs.word.StatusWord.of.Goals as goal

pub returns : goal.returns
returns c = status_read c.args.text.now c.read.result c.read.ensures
