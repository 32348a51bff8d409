-- What the faults of the journal are to the office.
use Rattle.al_journal.specs.declared.faults.OpenFault.{OpenFault}
use Rattle.al_journal.specs.declared.faults.OpenFault.TheVariants as opens
use Rattle.al_office.specs.declared.fault.OfficeFault.{OfficeFault}
use Rattle.al_office.specs.declared.fault.OfficeFault.TheVariants.{Disk, Invalid, Memory, NotAJournal}

-- a torn journal is invalid where it is torn
abbrev pub office_fault : OpenFault → OfficeFault
office_fault opens.NotAJournal = NotAJournal
office_fault (opens.TornLength count) = Invalid count
office_fault opens.Disk = Disk
office_fault opens.Memory = Memory
