use Rattle.al_office.proofs.Adding.{leaves_history}
use Rattle.al_office.proofs.journaled.Office.keeps_its_history.Goals as goal

pub returns-clause-now : goal.returns-clause-now
returns-clause-now g c = rw (← c.self.view_is) (leaves_history _ _ c.self.invariant.holds)
