use Rattle.al_types.proofs.Derivations.{GoesOn, depth}
use Rattle.al_types.proofs.inventory.Inventory.leads.Given as goal

abbrev pub invariant-loop-self : goal.invariant-loop-self
invariant-loop-self l = GoesOn (record { identities = l.self-inside.identities; rows = l.self-inside.rows }) l.fn.start l.fn.goal l.at

abbrev pub decreases-loop-self : goal.decreases-loop-self
decreases-loop-self l = depth l.at
