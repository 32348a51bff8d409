-- What holds of every history, and of the bytes that show one.
use Rattle.std.specs.Prelude.{◌≡◌, ◌≤◌, ℕ, List, length}
use Rattle.al_journal.specs.Images.{IsNoJournal}
use Rattle.al_model.specs.History.{IsLegal, replay}
use Rattle.al_model.specs.declared.entry.Entry.{Entry}
use Rattle.al_office.specs.Images.{ShowsHistory}
use Rattle.al_office.specs.Opening.{IsInvalid}

-- No history sends more notes than it has entries.
abbrev pub SendsAtMostOneNote : Type 0
SendsAtMostOneNote = (h : List Entry) → (replay h).log.sent ≤ length h

-- Bytes show at most one legal history, in a journal of one capacity.
abbrev pub ShowsOneHistory : Type 0
ShowsOneHistory =
    (image : List ℕ) (capacity other : ℕ) (h k : List Entry) → IsLegal h → IsLegal k → ShowsHistory capacity h image → ShowsHistory other k image
    → (capacity ≡ other) × (h ≡ k)

-- Bytes that show a history are a journal.
abbrev pub ShownIsAJournal : Type 0
ShownIsAJournal = (image : List ℕ) (capacity : ℕ) (h : List Entry) → ShowsHistory capacity h image → IsNoJournal image → ⊥

-- Bytes that show a legal history are a valid journal.
abbrev pub ShownIsValid : Type 0
ShownIsValid =
    (image : List ℕ) (capacity : ℕ) (h : List Entry) (count : ℕ) → IsLegal h → ShowsHistory capacity h image → IsInvalid count image → ⊥
