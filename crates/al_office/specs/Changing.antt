-- What becomes of a request over a journal: its answer, and what a crash may leave at every moment till then.
use Rattle.std.specs.Prelude.{◌≡◌, ◌⊎◌, ℕ, ◌+◌, ◌≤◌, true, false, List, [], ◌∷◌, ◌++◌, Result, Ok, Err, length}
use Rattle.al_disk.specs.Moments.{Between}
use Rattle.al_disk.specs.States.{DiskState}
use Rattle.al_frame.specs.Frames.{frame_of}
use Rattle.al_journal.specs.Views.{JournalView}
use Rattle.al_model.specs.Decision.{decision_of, entry_of}
use Rattle.al_model.specs.History.{replay}
use Rattle.al_model.specs.declared.decision.Decision.{Decision}
use Rattle.al_model.specs.declared.decision.Decision.TheVariants.{Refuse, Same, Change}
use Rattle.al_model.specs.declared.decision.Refusal.{Refusal}
use Rattle.al_model.specs.declared.decision.Refusal.TheVariants as refusals
use Rattle.al_model.specs.declared.decision.Reply.{Reply}
use Rattle.al_model.specs.declared.entry.Entry.{Entry}
use Rattle.al_model.specs.declared.request.Request.{Request}
use Rattle.al_office.specs.Images.{ShowsNear, used_by}
use Rattle.al_office.specs.Journaled.{IsInDoubt, JournaledView}

-- ---- the answer

-- the record of the entry has room in a journal of this capacity, behind the history
abbrev pub HasRoom : ℕ → List Entry → Entry → Type 0
HasRoom capacity history entry = used_by history + 5 + length (frame_of entry) ≤ capacity

-- the request has this answer, and the office is as it was
abbrev pub IsTold : {D : Type 0} → JournaledView D → Result Reply Refusal → Result Reply Refusal → JournaledView D → Type 0
IsTold old answer result new = (result ≡ answer) × (new ≡ old)

-- The entry stands behind the history and in the journal, without a doubt.
pub record IsWritten {D : Type 0} (old : JournaledView D) (entry : Entry) (new : JournaledView D) : Type 0 where
  pub entries : new.entries ≡ old.entries ++ entry ∷ []
  pub sure : new.journal.doubt ≡ false
  pub room : HasRoom old.journal.capacity old.entries entry

-- The history is as it was, and a doubt is settled. There is no room for the entry.
pub record IsFull {D : Type 0} (old : JournaledView D) (entry : Entry) (new : JournaledView D) : Type 0 where
  pub entries : new.entries ≡ old.entries
  pub sure : new.journal.doubt ≡ false
  pub no_room : HasRoom old.journal.capacity old.entries entry → ⊥

-- how a change that was decided on ended: it is carried out; or there was no memory, and nothing was done; or the journal is full; or the disk failed,
-- in settling or at the entry, and the history is as it was
abbrev pub Ended : {A D : Type 0} → JournaledView D → Entry → A → Result A Refusal → JournaledView D → Type 0
Ended old entry reply (Ok given) new = (given ≡ reply) × IsWritten old entry new
Ended old entry reply (Err refusals.Memory) new = new ≡ old
Ended old entry reply (Err refusals.JournalFull) new = IsFull old entry new
Ended old entry reply (Err refusals.Disk) new = new.entries ≡ old.entries
Ended old entry reply (Err _) new = ⊥

-- the answer and the office after it are those of a decision
abbrev pub IsDecided : {D : Type 0} → JournaledView D → ℕ → ℕ → Decision → Result Reply Refusal → JournaledView D → Type 0
IsDecided old origin now (Refuse refusal) result new = IsTold old (Err refusal) result new
IsDecided old origin now (Same reply) result new = IsTold old (Ok reply) result new
IsDecided old origin now (Change event reply) result new = Ended old (entry_of (replay old.entries) origin event now) reply result new

-- a request is answered as it is decided on over the history
abbrev pub IsAnswer : {D : Type 0} → JournaledView D → ℕ → Request → ℕ → Result Reply Refusal → JournaledView D → Type 0
IsAnswer old origin request now result new = IsDecided old origin now (decision_of (replay old.entries) request now) result new

-- ---- its moments

-- each image of every moment from the one state to the other shows the history, or it with the further entry
abbrev pub LeavesNear : ℕ → List Entry → Entry → DiskState → DiskState → Type 0
LeavesNear capacity history further old new = Between (ShowsNear capacity history further) old new

-- While an entry is written, each image shows the history, or it with the entry. Where the journal was in doubt of another one, that is settled
-- first: up to then each image shows the history, or it with the refused entry.
pub record Writes {D : Type 0} (journal : JournalView D) (history : List Entry) (entry : Entry) (old new : DiskState) : Type 0 where
  pub sure : journal.doubt ≡ false → LeavesNear journal.capacity history entry old new
  pub unsure : journal.doubt ≡ true → (refused : Entry) → IsInDoubt journal history refused old
      → LeavesNear journal.capacity history refused old new
      ⊎ ((settled : DiskState) × LeavesNear journal.capacity history refused old settled × LeavesNear journal.capacity history entry settled new)

-- what a request leaves: nothing but a change touches the disk
abbrev pub Leaves : {D : Type 0} → JournaledView D → ℕ → ℕ → Decision → DiskState → DiskState → Type 0
Leaves office origin now (Refuse refusal) old new = new ≡ old
Leaves office origin now (Same reply) old new = new ≡ old
Leaves office origin now (Change event reply) old new = Writes office.journal office.entries (entry_of (replay office.entries) origin event now) old new

abbrev pub IsCrashSafe : {D : Type 0} → JournaledView D → ℕ → Request → ℕ → DiskState → DiskState → Type 0
IsCrashSafe office origin request now old new = Leaves office origin now (decision_of (replay office.entries) request now) old new
