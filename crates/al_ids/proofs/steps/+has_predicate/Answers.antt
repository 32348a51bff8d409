use Rattle.al_ids.proofs.StepMatches.{has_here, has_later, has_none}
use Rattle.std.proofs.Common.{sym, ◌∙◌}
use Rattle.std.proofs.lemmas.Bool.{false≢true}
use Rattle.al_ids.proofs.steps.+has_predicate.Goals as goal

pub returns-then-is_asked : goal.returns-then-is_asked
returns-then-is_asked t c = λ predicates steps asked tail name value.
    let same = c.is_asked.ensures.0 c.if-is_asked.true in (
      λ h. has_here c.args.text.now (record { name = c.in-Some.condition.name.now; value = c.in-Some.condition.value.now; rest = c.in-Some.condition.rest.now })
          c.args.name.now c.args.value.now c.in-Some.ensures.parts same.0 same.1 predicates steps asked tail name value,
      λ has. c.if-is_asked.true,
    )

pub returns-else-is_asked : goal.returns-else-is_asked
returns-else-is_asked t c =
    has_later c.args.text.now (record { name = c.in-Some.condition.name.now; value = c.in-Some.condition.value.now; rest = c.in-Some.condition.rest.now })
    c.args.name.now c.args.value.now c.has_predicate.result c.in-Some.ensures.parts (λ same. false≢true (sym c.if-is_asked.false ∙ c.is_asked.ensures.1 same)) c.has_predicate.ensures

pub returns-in-None : goal.returns-in-None
returns-in-None t c = has_none c.args.text.now c.args.name.now c.args.value.now c.in-None.ensures.parts
