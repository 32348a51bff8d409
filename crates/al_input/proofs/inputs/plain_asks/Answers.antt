use Rattle.std.proofs.Common.{subst}
use Rattle.al_input.proofs.PlainReports.{SaysPlainly, plainly_asked, plainly_refused}
use Rattle.al_input.proofs.inputs.plain_asks.Goals as goal

pub returns-in-Ok-clause-exact : goal.returns-in-Ok-clause-exact
returns-in-Ok-clause-exact c =
    plainly_asked c.args.body.now c.in-Ok.request (subst (SaysPlainly c.args.body.now) c.in-Ok.is c.in_ok-request.ensures.exact)

pub returns-in-Err-clause-exact : goal.returns-in-Err-clause-exact
returns-in-Err-clause-exact c =
    plainly_refused c.args.body.now c.in-Err.fault (subst (SaysPlainly c.args.body.now) c.in-Err.is c.in_ok-request.ensures.exact)
