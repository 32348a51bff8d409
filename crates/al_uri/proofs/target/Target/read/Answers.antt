use Rattle.std.proofs.Common.{rules}
use Rattle.std.specs.Option.{option_copied}
use Rattle.al_uri.specs.Faults.{Answers}
use Rattle.al_uri.specs.Targets.{target_of}
use Rattle.al_uri.proofs.Within.{answer_within}
use Rattle.al_uri.proofs.target.Target.read.Goals as goal

pub returns-clause-within : goal.returns-clause-within
unfolding target_of
returns-clause-within c =
    let exact : Answers (target_of c.args.path.now (option_copied c.args.query)) c.with_parameters.result = search rules in
    answer_within c.args.path.now (option_copied c.args.query) c.with_parameters.result exact
