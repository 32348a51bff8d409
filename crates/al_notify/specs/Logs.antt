-- The log of notes: how many were sent, and the newest of them.
use Rattle.std.specs.Prelude.{◌≡◌, ℕ, ◌+◌, ◌-◌, min, List, [], ◌∷◌, ◌++◌, Some, length, take, drop, slice_get}
use Rattle.al_base.specs.Limits.{most_notes, most_page_notes}
use Rattle.al_notify.specs.declared.note.Note.{Note}

-- how many notes were sent, and those that are kept, the oldest first
pub record LogView : Type 0 where
  pub sent : ℕ
  pub notes : List Note

-- the log before the first note
abbrev pub empty_log : LogView
empty_log = record { sent = 0; notes = [] }

-- the last 4,096 notes
abbrev pub newest_notes : List Note → List Note
newest_notes notes = drop (length notes - most_notes) notes

-- the log with one more note
abbrev pub logged : Note → LogView → LogView
logged note log = record { sent = note.number; notes = newest_notes (log.notes ++ note ∷ []) }

-- the number of the oldest note that is kept, or of the next one where none is
abbrev pub oldest_of : LogView → ℕ
oldest_of log = log.sent + 1 - length log.notes

-- the notes numbered from the start on, or from the oldest where that is later: at most 256
abbrev pub page_of : LogView → ℕ → List Note
page_of log start = take most_page_notes (drop (start - oldest_of log) log.notes)

-- The last 4,096 notes are kept, and all while there are fewer. They are numbered one after the other, and the last one's number is how many were sent.
pub record IsLog (log : LogView) : Type 0 where
  pub kept : length log.notes ≡ min log.sent most_notes
  pub numbered : (k : ℕ) (note : Note) → slice_get log.notes k ≡ Some note → note.number ≡ oldest_of log + k
