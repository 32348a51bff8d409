use Rattle.std.proofs.Common.{Err, ap, ◌∙◌}
use Rattle.std.proofs.lemmas.Result.{err_from_is_err_and}
use Rattle.al_restconf.proofs.Carrying.{carries_done, carries_refused}
use Rattle.al_restconf.proofs.change.change.Goals as goal

pub returns-in_err-reply-clause-carried : goal.returns-in_err-reply-clause-carried
returns-in_err-reply-clause-carried g c =
    let p = err_from_is_err_and c.from_residual-in_err-reply.result c.from_residual-in_err-reply.ensures.1 in
    rw (p.1, p.2) (carries_refused _ _ _ _ _ _ _ _ c.in_err-reply.field-0.0 c.keeps_its_history.ensures.capacity (λ e. c.in_err-reply.ensures.cause (ap (λ r. Err r) e)) c.in_err-reply.ensures.answer)

pub returns-clause-carried : goal.returns-clause-carried
returns-clause-carried g c =
    carries_done _ _ _ _ _ _ _ _ c.in_ok-reply.reply c.told.result c.keeps_its_history.ensures.capacity c.in_ok-reply.ensures.answer
    (rw c.entries-place.ensures at (c.told.ensures.value ∙ c.in_ok-receipt.ensures.answer c.entries-place.result c.in_ok-reply.reply))
