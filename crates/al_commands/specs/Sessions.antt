-- A session: one conversation over the history that a journal shows, and the status that tells how it ended.
use Rattle.std.specs.Prelude.{◌≡◌, ◌⊎◌, ℕ, ◌≤◌, Option, List, length, true}
use Rattle.al_base.specs.Outside.{Rose}
use Rattle.al_disk.specs.Images.{LeavesOnly}
use Rattle.al_disk.specs.Moments.{Since}
use Rattle.al_disk.specs.States.{DiskState, Goes, Told, synced, time}
use Rattle.al_journal.specs.Walks.{LeavesAsBefore}
use Rattle.al_model.specs.History.{Fits, IsLegal, replay}
use Rattle.al_model.specs.declared.entry.Entry.{Entry}
use Rattle.al_model.specs.declared.kept.Mark.{Mark}
use Rattle.al_office.specs.Images.{ShowsFront, ShowsHistory, ShowsNear}
use Rattle.al_office.specs.Opening.{RefusesOffice}
use Rattle.al_office.specs.declared.fault.OfficeFault.{OfficeFault}
use Rattle.al_office.specs.declared.fault.OfficeFault.TheVariants as offices
use Rattle.al_restconf.specs.Machine.{IsAnswer}
use Rattle.al_serve.specs.Conversations.{Outside, IsConversation}
use Rattle.al_commands.specs.Statuses.{status_of, status_of_fault}
use Rattle.al_serve.specs.declared.conversation.Ending.{Ending}

-- the origin of a session's entries
abbrev pub session_origin : ℕ
session_origin = 0

-- The disk before and after, where it tells its state, with its count of faults.
pub record Disks : Type 0 where
  pub old_disk : Option DiskState
  pub new_disk : Option DiskState
  pub old_faults : ℕ
  pub new_faults : ℕ

-- a crash now leaves the history, or it with one refused entry that is legal there
abbrev pub LeavesNow : ℕ → List Entry → DiskState → Type 0
LeavesNow capacity history s =
    LeavesOnly (ShowsHistory capacity history) s.now
    ⊎ ((refused : Entry) × Fits (replay history) refused × LeavesOnly (ShowsNear capacity history refused) s.now)

-- The disk of a session from the one history to the other: its content showed the one at first; each image now shows the other, or in doubt it with
-- the refused entry; and each image of every moment since the opening shows a front of the other that begins with the one, or such a front with one
-- further entry that is legal there.
pub record KeepsJournal (before after : Mark) (disks : Disks) : Type 0 where
  pub opened : Told disks.old_disk (λ s. ShowsHistory before.fixed.capacity before.entries s.content × (before.fixed.since ≡ time (synced s)))
  pub whole : before.fixed.length ≡ length before.entries
  pub now : Told disks.new_disk (LeavesNow before.fixed.capacity after.entries)
  pub since : Told disks.new_disk (Since (ShowsFront before.fixed.capacity before.fixed.length after.entries) before.fixed.since)
  pub first_count : disks.old_faults ≤ before.faults
  pub last_count : after.faults ≡ disks.new_faults

-- The input was answered by the machine of the resources over the history that the disk showed, which stays legal, and the status tells how it ended.
pub record HasConversed (input : Option (List ℕ)) (outside : Outside) (disks : Disks) (status : ℕ) : Type 0 where
  pub ending : Ending
  pub status_is : status ≡ status_of ending.cause
  pub before : Mark
  pub after : Mark
  pub legal_before : IsLegal before.entries
  pub legal_after : IsLegal after.entries
  pub fixed : after.fixed ≡ before.fixed
  pub conversation : IsConversation IsAnswer (λ _. true) session_origin before after input outside ending
  pub journal : KeepsJournal before after disks

-- Nothing was read or written.
pub record HasNotTalked {S O K : Type 0} (old_source new_source : S) (old_sink new_sink : O) (old_clock new_clock : K) : Type 0 where
  pub source : new_source ≡ old_source
  pub sink : new_sink ≡ old_sink
  pub clock : new_clock ≡ old_clock

-- The journal wasn't opened, by this cause, or there was no memory to begin. The content is as it was, and each image was possible before.
pub record HasNotBegun (disks : Disks) (status : ℕ) : Type 0 where
  pub fault : OfficeFault
  pub status_is : status ≡ status_of_fault fault
  pub disk : Goes (RefusesOffice fault) disks.old_disk disks.new_disk
  pub moments : Goes LeavesAsBefore disks.old_disk disks.new_disk
  pub cause : fault ≡ offices.Disk → Rose disks.old_faults disks.new_faults
