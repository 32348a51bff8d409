use Rattle.al_base.proofs.type_id.is_identifier.Goals as goal

pub returns-then-begins_identifier : goal.returns-then-begins_identifier
returns-then-begins_identifier c = let b = c.in-Some.ensures.cases.0 in rw b (rw (← c.if-begins_identifier.ensures) c.all_continue.ensures)
