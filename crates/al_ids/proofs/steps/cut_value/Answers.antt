use Rattle.std.proofs.Common.{◌∙◌}
use Rattle.al_ids.specs.StepReading.{is_inside}
use Rattle.al_ids.proofs.Fronts.{front_taken, front_dropped}
use Rattle.al_ids.proofs.steps.cut_value.Goals as goal

pub returns-clause-front : goal.returns-clause-front
returns-clause-front c = c.split_at.ensures.front ∙ front_taken (is_inside c.args.quote) c.args.text.now c.value_len.result c.value_len.ensures.len

pub returns-clause-behind : goal.returns-clause-behind
returns-clause-behind c = c.split_at.ensures.back ∙ front_dropped (is_inside c.args.quote) c.args.text.now c.value_len.result c.value_len.ensures.len
