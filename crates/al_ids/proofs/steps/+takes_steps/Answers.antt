use Rattle.std.specs.Option.{option_copied}
use Rattle.al_ids.proofs.StepMatches.{both_ended, given_ended, cut_is, owner_or, FirstSteps, step_answer, steps_answer, heads, apart}
use Rattle.al_ids.proofs.steps.+takes_steps.Goals as goal

pub returns-in_default : goal.returns-in_default
returns-in_default t c =
    both_ended c.args.asked.now c.args.given.now (option_copied c.args.asked_owner) (option_copied c.args.given_owner) c.is_empty.result c.in_default.ensures.owner c.is_empty.ensures

pub returns-in_default-cut_step : goal.returns-in_default-cut_step
returns-in_default-cut_step t c =
    given_ended c.args.asked.now c.args.given.now (option_copied c.args.asked_owner) (option_copied c.args.given_owner) (option_copied c.in-Some.asked.owner) c.in-Some.asked.name.now c.in-Some.asked.rest.now
    (cut_is c.args.asked.now (option_copied c.in-Some.asked.owner) c.in-Some.asked.name.now c.in-Some.asked.rest.now c.in-Some.ensures.owner c.in-Some.ensures.name c.in-Some.ensures.rest)
    c.in_default-cut_step.ensures.owner

pub returns-then-takes_step : goal.returns-then-takes_step
returns-then-takes_step t c =
    let asked_or = owner_or c.in-Some.asked.owner c.args.asked_owner c.or-asked_owner.result c.or-asked_owner.ensures in
    let given_or = owner_or c.in-Some-cut_step.given.owner c.args.given_owner c.or-given_owner.result c.or-given_owner.ensures in
    let first : FirstSteps c.args.asked.now c.args.given.now (option_copied c.args.asked_owner) (option_copied c.args.given_owner) = record {
      asked_said = option_copied c.in-Some.asked.owner;
      given_said = option_copied c.in-Some-cut_step.given.owner;
      asked_name = c.in-Some.asked.name.now;
      given_name = c.in-Some-cut_step.given.name.now;
      asked_rest = c.in-Some.asked.rest.now;
      given_rest = c.in-Some-cut_step.given.rest.now;
      asked_cut = cut_is c.args.asked.now (option_copied c.in-Some.asked.owner) c.in-Some.asked.name.now c.in-Some.asked.rest.now c.in-Some.ensures.owner c.in-Some.ensures.name c.in-Some.ensures.rest;
      given_cut = cut_is c.args.given.now (option_copied c.in-Some-cut_step.given.owner) c.in-Some-cut_step.given.name.now c.in-Some-cut_step.given.rest.now c.in-Some-cut_step.ensures.owner c.in-Some-cut_step.ensures.name c.in-Some-cut_step.ensures.rest;
      first = c.takes_step.result;
      first_is = step_answer (option_copied c.or-asked_owner.result) _ c.in-Some.asked.name.now c.in-Some.asked.rest.now (option_copied c.or-given_owner.result) _ c.in-Some-cut_step.given.name.now c.in-Some-cut_step.given.rest.now c.takes_step.result asked_or given_or c.takes_step.ensures;
    } in
    heads c.args.asked.now c.args.given.now (option_copied c.args.asked_owner) (option_copied c.args.given_owner) first c.behind_predicates.result.now c.behind_predicates-then-takes_step.result.now c.takes_steps.result
    c.behind_predicates.ensures.steps c.behind_predicates-then-takes_step.ensures.steps
    (steps_answer c.behind_predicates.result.now (option_copied c.or-asked_owner.result) _ c.behind_predicates-then-takes_step.result.now (option_copied c.or-given_owner.result) _ c.takes_steps.result asked_or given_or c.takes_steps.ensures)
    c.if-takes_step.true

pub returns-else-takes_step : goal.returns-else-takes_step
returns-else-takes_step t c =
    let asked_or = owner_or c.in-Some.asked.owner c.args.asked_owner c.or-asked_owner.result c.or-asked_owner.ensures in
    let given_or = owner_or c.in-Some-cut_step.given.owner c.args.given_owner c.or-given_owner.result c.or-given_owner.ensures in
    let first : FirstSteps c.args.asked.now c.args.given.now (option_copied c.args.asked_owner) (option_copied c.args.given_owner) = record {
      asked_said = option_copied c.in-Some.asked.owner;
      given_said = option_copied c.in-Some-cut_step.given.owner;
      asked_name = c.in-Some.asked.name.now;
      given_name = c.in-Some-cut_step.given.name.now;
      asked_rest = c.in-Some.asked.rest.now;
      given_rest = c.in-Some-cut_step.given.rest.now;
      asked_cut = cut_is c.args.asked.now (option_copied c.in-Some.asked.owner) c.in-Some.asked.name.now c.in-Some.asked.rest.now c.in-Some.ensures.owner c.in-Some.ensures.name c.in-Some.ensures.rest;
      given_cut = cut_is c.args.given.now (option_copied c.in-Some-cut_step.given.owner) c.in-Some-cut_step.given.name.now c.in-Some-cut_step.given.rest.now c.in-Some-cut_step.ensures.owner c.in-Some-cut_step.ensures.name c.in-Some-cut_step.ensures.rest;
      first = c.takes_step.result;
      first_is = step_answer (option_copied c.or-asked_owner.result) _ c.in-Some.asked.name.now c.in-Some.asked.rest.now (option_copied c.or-given_owner.result) _ c.in-Some-cut_step.given.name.now c.in-Some-cut_step.given.rest.now c.takes_step.result asked_or given_or c.takes_step.ensures;
    } in
    apart c.args.asked.now c.args.given.now (option_copied c.args.asked_owner) (option_copied c.args.given_owner) first c.if-takes_step.false
