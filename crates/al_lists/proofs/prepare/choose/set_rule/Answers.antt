use Rattle.al_lists.proofs.Preparing.{rule_prepared}
use Rattle.al_lists.proofs.prepare.choose.set_rule.Goals as goal

pub returns : goal.returns
returns c = λ t valid comes. rule_prepared t c.args.time c.args.rule
