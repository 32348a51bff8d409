use Rattle.std.proofs.Common.{arith}
use Rattle.std.proofs.lemmas.Grind.{common_steps}
use Rattle.al_base.proofs.Copies.{gives_front}
use Rattle.al_base.proofs.memory.copy_from.Goals as goal

pub returns-clause-given : goal.returns-clause-given
returns-clause-given c =
    gives_front c.args.bytes.now c.args.place c.min-count.result _ (grind (arith, common_steps))
