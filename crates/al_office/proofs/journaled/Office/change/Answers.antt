use Rattle.std.proofs.Common.{sym, ◌∙◌}
use Rattle.al_model.specs.History.{replay}
use Rattle.al_office.proofs.Changing.{never_disk}
use Rattle.al_office.proofs.journaled.Office.change.Goals as goal

pub returns-in-Err-clause-cause : goal.returns-in-Err-clause-cause
returns-in-Err-clause-cause g c = λ is.
    absurd (never_disk (replay c.self.inside.ledger.entries) c.args.origin c.args.request c.args.now c.in-Err.answer (sym c.in-Err.is ∙ c.decide.ensures.decided) is)
