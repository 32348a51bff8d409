-- How an entry was written to a journal.
use Rattle.std.specs.Prelude.{◌+◌, ◌<◌, ◌≤◌, Option, List, [], ◌∷◌, ◌++◌, Result, Ok, Err, length}
use Rattle.al_disk.specs.States.{DiskState}
use Rattle.al_frame.specs.Frames.{frame_of}
use Rattle.al_journal.specs.Views.{JournalView}
use Rattle.al_journal.specs.declared.faults.CommitFault.{CommitFault}
use Rattle.al_journal.specs.declared.faults.CommitFault.TheVariants.{Disk, Full}
use Rattle.al_model.specs.declared.entry.Entry.{Entry}
use Rattle.al_office.specs.Journaled.{HoldsHistory}

-- the history, which has the entry where it was written
abbrev pub HoldsAfter : {D : Type 0} → Option DiskState → JournalView D → List Entry → Entry → Result (Unit {0}) CommitFault → Type 0
HoldsAfter told journal history entry (Ok _) = HoldsHistory told journal (history ++ entry ∷ [])
HoldsAfter told journal history entry (Err _) = HoldsHistory told journal history

-- it was written where there is room, and refused for want of it where there is none
abbrev pub SaysRoom : {D : Type 0} → JournalView D → Entry → Result (Unit {0}) CommitFault → Type 0
SaysRoom journal entry (Ok _) = journal.gate + 6 + length (frame_of entry) ≤ journal.capacity
SaysRoom journal entry (Err Full) = journal.capacity < journal.gate + 6 + length (frame_of entry)
SaysRoom journal entry (Err Disk) = Unit {0}
