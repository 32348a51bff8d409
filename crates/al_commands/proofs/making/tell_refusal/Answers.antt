use Rattle.al_commands.proofs.making.tell_refusal.Goals as goal

pub returns-in-AlreadyMade-clause-told : goal.returns-in-AlreadyMade-clause-told
returns-in-AlreadyMade-clause-told g c = λ capacity. rw c.in-AlreadyMade.is c.tell.ensures.told

pub returns-in-Disk-clause-told : goal.returns-in-Disk-clause-told
returns-in-Disk-clause-told g c = λ capacity. rw c.in-Disk.is c.tell-in-Disk.ensures.told
