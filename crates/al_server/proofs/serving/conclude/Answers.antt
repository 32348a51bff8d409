use Rattle.std.proofs.Common.{arith, length}
use Rattle.al_server.proofs.Ends.{told_so}
use Rattle.al_server.proofs.serving.conclude.Goals as goal

pub returns-clause-told : goal.returns-clause-told
returns-clause-told g c = told_so c.args.shift.served.connections _ c.args.before (length c.args.shift.office.entries) _ _ _ _ _ (let counted = c.len.ensures in omega (arith, counted)) c.status_by-done.ensures c.tell_served-status.ensures.told
