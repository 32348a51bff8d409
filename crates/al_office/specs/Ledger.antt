-- The history and its tables, with the memory that they have at hand.
use Rattle.std.specs.Prelude.{◌≡◌, ℕ, ◌+◌, ◌<◌, ◌≤◌, ◌^◌, Option, None, Some, List, Result, Ok, Err, length}
use Rattle.al_contents.specs.Tables.{TablesView}
use Rattle.al_frame.specs.Frames.{frame_of}
use Rattle.al_journal.specs.Views.{JournalView}
use Rattle.al_lists.specs.Prepared.{IsPreparedFor}
use Rattle.al_lists.specs.declared.prepared.Prepared.{Prepared}
use Rattle.al_model.specs.Decision.{entry_of}
use Rattle.al_model.specs.History.{IsLegal, replay}
use Rattle.al_model.specs.State.{State}
use Rattle.al_model.specs.declared.decision.Decision.{Decision}
use Rattle.al_model.specs.declared.decision.Decision.TheVariants.{Refuse, Same, Change}
use Rattle.al_model.specs.declared.decision.Refusal.{Refusal}
use Rattle.al_model.specs.declared.decision.Reply.{Reply}
use Rattle.al_model.specs.declared.entry.Entry.{Entry}

-- The entries, the tables that they leave, and for how many more entries there is room.
pub record LedgerView : Type 0 where
  pub entries : List Entry
  pub tables : TablesView
  pub room : ℕ

-- What the ledger keeps: the entries are legal, and the state is what they leave.
pub record IsKept (entries : List Entry) (state : State) : Type 0 where
  pub legal : IsLegal entries
  pub tables : state ≡ replay entries

-- A number of 32 bits is left for a further note.
abbrev pub CanNote : List Entry → Type 0
CanNote entries = (replay entries).log.sent + 1 < 2 ^ 32

-- The entry can be added by what was prepared, without memory.
pub record CanAdd (ledger : LedgerView) (entry : Entry) (prepared : Prepared) : Type 0 where
  pub room : 0 < ledger.room
  pub ready : IsPreparedFor ledger.tables entry prepared

-- the entry by which a decision at a reading of the clock is carried out, with its reply, or what is answered at once
abbrev pub carried_out : State → ℕ → ℕ → Decision → Result (Entry × Reply) (Result Reply Refusal)
carried_out s origin now (Refuse refusal) = Err (Err refusal)
carried_out s origin now (Same reply) = Err (Ok reply)
carried_out s origin now (Change event reply) = Ok (entry_of s origin event now, reply)

-- a record of the entry's frame was made exactly where the journal has room for it
abbrev pub IsRecord : {D : Type 0} → JournalView D → Entry → Option (List ℕ) → Type 0
IsRecord journal entry None = journal.capacity < journal.gate + 6 + length (frame_of entry)
IsRecord journal entry (Some payload) = (payload ≡ frame_of entry) × (journal.gate + 6 + length (frame_of entry) ≤ journal.capacity)
