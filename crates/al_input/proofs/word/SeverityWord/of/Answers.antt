use Rattle.al_input.proofs.WordLemmas.{severity_read}
use Rattle.al_input.proofs.word.SeverityWord.of.Goals as goal

pub returns : goal.returns
returns c = severity_read c.args.text.now c.read.result c.read.ensures
