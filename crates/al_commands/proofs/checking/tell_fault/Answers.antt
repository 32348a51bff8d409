use Rattle.al_commands.proofs.checking.tell_fault.Goals as goal

pub returns-in-NotAJournal-clause-told : goal.returns-in-NotAJournal-clause-told
returns-in-NotAJournal-clause-told g c = rw c.in-NotAJournal.is c.tell.ensures.told

pub returns-in-Invalid-clause-told : goal.returns-in-Invalid-clause-told
returns-in-Invalid-clause-told g c = rw c.in-Invalid.is c.tell_invalid.ensures.told

pub returns-in-Disk-clause-told : goal.returns-in-Disk-clause-told
returns-in-Disk-clause-told g c = rw c.in-Disk.is c.tell-in-Disk.ensures.told
