use Rattle.std.proofs.Common.{refl}
use Rattle.al_commands.proofs.program.run_command.Goals as goal

pub returns-in-Init-clause-does : goal.returns-in-Init-clause-does
returns-in-Init-clause-does g c = rw c.in-Init.is c.run_init.ensures.made

pub returns-in-Session-clause-does : goal.returns-in-Session-clause-does
returns-in-Session-clause-does g c = rw c.in-Session.is c.run_session.ensures.session

pub returns-in-Check-clause-does : goal.returns-in-Check-clause-does
returns-in-Check-clause-does g c = rw c.in-Check.is c.run_check.ensures.checked

pub returns-in-Drill-clause-does : goal.returns-in-Drill-clause-does
returns-in-Drill-clause-does g c = rw c.in-Drill.is (c.run_drill.ensures.drilled, refl)
