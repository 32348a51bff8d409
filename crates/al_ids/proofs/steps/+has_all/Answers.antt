use Rattle.al_ids.proofs.StepMatches.{all_more, all_lack, all_none}
use Rattle.al_ids.proofs.steps.+has_all.Goals as goal

pub returns-then-has_predicate : goal.returns-then-has_predicate
returns-then-has_predicate t c =
    all_more c.args.asked.now c.args.given.now (record { name = c.in-Some.condition.name.now; value = c.in-Some.condition.value.now; rest = c.in-Some.condition.rest.now })
    c.has_predicate.result c.has_all.result c.in-Some.ensures.parts c.has_predicate.ensures c.if-has_predicate.true c.has_all.ensures

pub returns-else-has_predicate : goal.returns-else-has_predicate
returns-else-has_predicate t c =
    all_lack c.args.asked.now c.args.given.now (record { name = c.in-Some.condition.name.now; value = c.in-Some.condition.value.now; rest = c.in-Some.condition.rest.now })
    c.has_predicate.result c.in-Some.ensures.parts c.has_predicate.ensures c.if-has_predicate.false

pub returns-in-None : goal.returns-in-None
returns-in-None t c = all_none c.args.asked.now c.args.given.now c.in-None.ensures.parts
