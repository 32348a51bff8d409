-- The exit statuses of the program.
use Rattle.std.specs.Prelude.{ℕ, Result, Ok, Err}
use Rattle.al_journal.specs.declared.faults.BirthFault.{BirthFault}
use Rattle.al_journal.specs.declared.faults.BirthFault.TheVariants as births
use Rattle.al_office.specs.declared.fault.OfficeFault.{OfficeFault}
use Rattle.al_office.specs.declared.fault.OfficeFault.TheVariants as offices
use Rattle.al_serve.specs.declared.conversation.Cause.{Cause}
use Rattle.al_serve.specs.declared.conversation.Cause.TheVariants.{Ended, Closed, Limit, Cut, Rejected, ReadFault, WriteFault}

abbrev pub status_done : ℕ
status_done = 0

abbrev pub status_bad_words : ℕ
status_bad_words = 2

-- a journal is there where one is to be made, or none where one is to be opened
abbrev pub status_journal : ℕ
status_journal = 3

abbrev pub status_invalid : ℕ
status_invalid = 4

abbrev pub status_disk_fault : ℕ
status_disk_fault = 5

abbrev pub status_read_fault : ℕ
status_read_fault = 6

abbrev pub status_write_fault : ℕ
status_write_fault = 7

abbrev pub status_out_of_memory : ℕ
status_out_of_memory = 8

abbrev pub status_cut : ℕ
status_cut = 9

abbrev pub status_rejected : ℕ
status_rejected = 10

abbrev pub status_door_fault : ℕ
status_door_fault = 11

-- how a conversation ended
abbrev pub status_of : Cause → ℕ
status_of Ended = status_done
status_of Closed = status_done
status_of Limit = status_done
status_of Cut = status_cut
status_of Rejected = status_rejected
status_of ReadFault = status_read_fault
status_of WriteFault = status_write_fault

-- why a journal wasn't opened
abbrev pub status_of_fault : OfficeFault → ℕ
status_of_fault offices.NotAJournal = status_journal
status_of_fault (offices.Invalid count) = status_invalid
status_of_fault offices.Disk = status_disk_fault
status_of_fault offices.Memory = status_out_of_memory

-- whether a journal was made
abbrev pub status_of_birth : {A : Type 0} → Result A BirthFault → ℕ
status_of_birth (Ok _) = status_done
status_of_birth (Err births.AlreadyMade) = status_journal
status_of_birth (Err births.Disk) = status_disk_fault
status_of_birth (Err births.BadCapacity) = status_bad_words
