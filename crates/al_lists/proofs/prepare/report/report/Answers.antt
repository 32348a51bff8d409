use Rattle.al_lists.proofs.Preparing.{never_cleared}
use Rattle.al_lists.proofs.prepare.report.report.Goals as goal

pub severity_of-requires : goal.severity_of-requires
severity_of-requires c =
    never_cleared c.args.contents.now.state c.args.time c.args.key.now c.args.status c.args.text.now c.in-Err.ensures.none c.requires.comes
