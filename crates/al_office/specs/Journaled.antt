-- The office over its journal, and what its type keeps.
use Rattle.std.specs.Prelude.{◌≡◌, ℕ, ◌+◌, ◌≤◌, true, false, Option, None, Some, List, length}
use Rattle.al_disk.specs.Images.{LeavesOnly}
use Rattle.al_disk.specs.Moments.{Since}
use Rattle.al_disk.specs.States.{DiskState, Told, time}
use Rattle.al_frame.specs.Frames.{frame_of}
use Rattle.al_journal.specs.Views.{InDoubt, JournalView, Stands}
use Rattle.al_model.specs.History.{Fits, replay}
use Rattle.al_model.specs.declared.entry.Entry.{Entry}
use Rattle.al_model.specs.declared.kept.Fixed.{Fixed}
use Rattle.al_model.specs.declared.kept.Mark.{Mark}
use Rattle.al_office.specs.Images.{ShowsFront, ShowsHistory, ShowsNear, frames_of, used_by}

-- An office: the history, the journal that holds it, and what stays since it was opened: the journal's capacity, how long the history was, and the
-- disk's time.
pub record JournaledView (D : Type 0) : Type 0 where
  pub entries : List Entry
  pub journal : JournalView D
  pub fixed : Fixed

-- what is seen of it where its disk has failed so often
abbrev pub journaled_mark : {D : Type 0} → ℕ → JournaledView D → Mark
journaled_mark faults office = record { entries = office.entries; faults = faults; fixed = office.fixed }

-- the time of a disk, 0 where it tells none
abbrev pub time_told : Option DiskState → ℕ
time_told None = 0
time_told (Some s) = time s

-- ---- the journal

-- The disk refused this entry, which is legal behind the history, and may hold it or not.
pub record IsInDoubt {D : Type 0} (journal : JournalView D) (history : List Entry) (refused : Entry) (s : DiskState) : Type 0 where
  pub fits : Fits (replay history) refused
  pub staged : InDoubt journal.capacity journal.gate (frames_of history) (frame_of refused) s

-- The journal holds the history: it was walked over, its used bytes are those of the history, and where the disk tells its state it shows the
-- history, or is in doubt of one refused entry.
pub record HoldsHistory {D : Type 0} (told : Option DiskState) (journal : JournalView D) (history : List Entry) : Type 0 where
  pub used : journal.gate + 1 ≡ used_by history
  pub walked : journal.next ≡ journal.gate
  pub sure : journal.doubt ≡ false → Told told (Stands journal.capacity journal.gate (frames_of history))
  pub unsure : journal.doubt ≡ true → Told told (λ s. (refused : Entry) × IsInDoubt journal history refused s)

-- ---- the office

-- What every office keeps: its journal holds its history, and each image of every moment since it was opened shows a front of the history that is no
-- shorter than it was then, or such a front with one further entry that is legal there.
pub record IsKeptOn {D : Type 0} (told : Option DiskState) (office : JournaledView D) : Type 0 where
  pub holds : HoldsHistory told office.journal office.entries
  pub capacity : office.fixed.capacity ≡ office.journal.capacity
  pub longer : office.fixed.length ≤ length office.entries
  pub since : Told told (Since (ShowsFront office.fixed.capacity office.fixed.length office.entries) office.fixed.since)

-- What a crash now leaves: the history, or in doubt the history or it with one refused entry that is legal there.
pub record LeavesHistory {D : Type 0} (office : JournaledView D) (s : DiskState) : Type 0 where
  pub sure : office.journal.doubt ≡ false → LeavesOnly (ShowsHistory office.journal.capacity office.entries) s.now
  pub unsure : office.journal.doubt ≡ true
      → (refused : Entry) × Fits (replay office.entries) refused × LeavesOnly (ShowsNear office.journal.capacity office.entries refused) s.now
