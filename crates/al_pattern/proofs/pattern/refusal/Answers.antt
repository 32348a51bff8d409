use Rattle.al_pattern.proofs.PatternLemmas.{fault_is_first}
use Rattle.al_pattern.proofs.pattern.refusal.Goals as goal

pub returns-in-Fault : goal.returns-in-Fault
returns-in-Fault c text size fails =
    rw (c.placed.ensures, ← size) (fault_is_first text c.in-Fault.fault (rw c.in-Fault.is at fails))
