use Rattle.al_ids.proofs.StepMatches.{steps_later, steps_here}
use Rattle.al_ids.proofs.steps.+behind_predicates.Goals as goal

pub returns-in-Some-clause-steps : goal.returns-in-Some-clause-steps
returns-in-Some-clause-steps t c =
    steps_later c.args.text.now c.behind_predicates.result.now (record { name = c.in-Some.condition.name.now; value = c.in-Some.condition.value.now; rest = c.in-Some.condition.rest.now })
    c.in-Some.ensures.parts c.behind_predicates.ensures.steps

pub returns-in-None-clause-steps : goal.returns-in-None-clause-steps
returns-in-None-clause-steps t c = steps_here c.args.text.now c.in-None.ensures.parts
