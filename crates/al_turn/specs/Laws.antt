-- What holds of every history.
use Rattle.std.specs.Prelude.{◌≡◌, ◌-◌, ◌≤◌, ◌++◌, ℕ, List, drop, length}
use Rattle.al_model.specs.declared.entry.Entry.{Entry}
use Rattle.al_turn.specs.Histories.{Numbered, StartsWith, counted_up_to, entries_by, entries_of, further}

-- Where every entry from a place on has an origin from 1 to the count, these origins' entries are all entries from there on, each counted once.
abbrev pub PassesMakeAllEntries : Type 0
PassesMakeAllEntries =
    (history : List Entry) (from count : ℕ) → Numbered count (drop from history) → counted_up_to history from count ≡ length history - from

-- An origin's entries from a place on, in a history that has grown, are those before it grew and those in what it grew by.
abbrev pub OwnEntriesGrow : Type 0
OwnEntriesGrow =
    (history front : List Entry) (origin from : ℕ) → from ≤ length front → StartsWith history front →
    entries_of history origin from ≡ entries_of front origin from ++ entries_by origin (further history front)
