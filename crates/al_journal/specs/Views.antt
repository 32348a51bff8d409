-- A journal as its calls see it.
use Rattle.std.specs.Prelude.{◌≡◌, ℕ, Bool, List}
use Rattle.al_disk.specs.Images.{LeavesOnly}
use Rattle.al_disk.specs.States.{DiskState}
use Rattle.al_journal.specs.Format.{gate_of}
use Rattle.al_journal.specs.Images.{Shows, Staged}

-- A journal: its disk, its capacity, the place of its gate, the place that the walk over its frames has come to and how many it has read, and
-- whether a commit left it in doubt.
pub record JournalView (D : Type 0) : Type 0 where
  pub disk : D
  pub capacity : ℕ
  pub gate : ℕ
  pub next : ℕ
  pub count : ℕ
  pub doubt : Bool

-- A disk that holds these payloads: it reads so, and each crash now leaves them.
pub record Stands (capacity gate : ℕ) (payloads : List (List ℕ)) (s : DiskState) : Type 0 where
  pub content : Shows capacity payloads s.content
  pub images : LeavesOnly (Shows capacity payloads) s.now
  pub gate_is : gate ≡ gate_of payloads

-- A disk in doubt: behind these payloads a further one stands whole, whose gate may be open or not.
pub record InDoubt (capacity gate : ℕ) (payloads : List (List ℕ)) (payload : List ℕ) (s : DiskState) : Type 0 where
  pub content : Staged capacity payloads payload s.content
  pub images : LeavesOnly (Staged capacity payloads payload) s.now
  pub gate_is : gate ≡ gate_of payloads
