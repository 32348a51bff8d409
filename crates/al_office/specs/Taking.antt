-- What was taken for an entry.
use Rattle.al_journal.specs.Views.{JournalView}
use Rattle.al_model.specs.declared.entry.Entry.{Entry}
use Rattle.al_office.specs.Ledger.{CanAdd, IsRecord, LedgerView}
use Rattle.al_office.specs.declared.taking.Taken.{Taken}

-- The record of the entry, where the journal has room for it, and its change.
pub record IsTaken {D : Type 0} (journal : JournalView D) (ledger : LedgerView) (entry : Entry) (taken : Taken) : Type 0 where
  pub record_is : IsRecord journal entry taken.record
  pub can_add : CanAdd ledger entry taken.prepared
