use Rattle.al_input.proofs.Within.{answer_within}
use Rattle.serde_json.specs.View.{view}
use Rattle.al_input.proofs.inputs.input.Goals as goal

pub returns-clause-within : goal.returns-clause-within
returns-clause-within c = answer_within c.args.target.now (view c.args.value.now) c.read.result c.read.ensures
