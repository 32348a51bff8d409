use Rattle.std.proofs.Common.{arith}
use Rattle.std.proofs.lemmas.Grind.{common_steps}
use Rattle.al_record.proofs.Newest.{reverse-drop}
use Rattle.al_record.proofs.history.keep_newest.Goals as goal

pub returns-clause-items : goal.returns-clause-items
returns-clause-items g c = grind (arith, common_steps, reverse-drop c.args.stored.now.items c.args.count)
