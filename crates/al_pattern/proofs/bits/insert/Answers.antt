use Rattle.al_pattern.proofs.BitLemmas.{is_in-insert}
use Rattle.al_pattern.proofs.bits.insert.Goals as goal

pub returns : goal.returns
returns c k = is_in-insert c.args.words.now c.args.n k c.requires
