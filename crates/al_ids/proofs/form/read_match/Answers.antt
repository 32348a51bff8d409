use Rattle.al_ids.proofs.TextTests.{match_holds}
use Rattle.al_ids.proofs.form.read_match.Goals as goal

pub returns-in-Ok : goal.returns-in-Ok
returns-in-Ok c = let ok = c.in-Ok.ensures.ok in (ok.0, match_holds c.args.bytes.now ok.1)
