-- Histories as lists of entries: which entries are whose, and how one history goes on from another.
use Rattle.std.specs.Prelude.{◌≡◌, ◌==◌, ℕ, zero, suc, ◌+◌, ◌≤◌, Bool, true, false, List, ◌++◌, drop, length}
use Rattle.std.specs.List.{AllByRecursion, filter}
use Rattle.al_model.specs.declared.entry.Entry.{Entry}
use Rattle.al_model.specs.declared.kept.Mark.{Mark}

-- the entries that the origin made, in order
abbrev pub entries_by : ℕ → List Entry → List Entry
entries_by origin = filter (λ (e : Entry). e.origin == origin)

-- the entries from the place on that the origin made, in order
abbrev pub entries_of : List Entry → ℕ → ℕ → List Entry
entries_of history origin from = entries_by origin (drop from history)

-- what stands in a history behind another one that it begins with
abbrev pub further : List Entry → List Entry → List Entry
further history front = drop (length front) history

-- The history begins with the front.
abbrev pub StartsWith : List Entry → List Entry → Type 0
StartsWith history front = history ≡ front ++ further history front

-- One mark goes on from another: its history begins with the other's, its count of faults isn't below the other's, and the fixed part is the same.
pub record GoesOn (before after : Mark) : Type 0 where
  pub begins : StartsWith after.entries before.entries
  pub counts : before.faults ≤ after.faults
  pub same : after.fixed ≡ before.fixed

-- Each entry has an origin that is among those.
abbrev pub MadeBy : (ℕ → Bool) → List Entry → Type 0
MadeBy origins = AllByRecursion (λ (e : Entry). origins e.origin ≡ true)

-- No entry has an origin that is among those.
abbrev pub MadeByOthers : (ℕ → Bool) → List Entry → Type 0
MadeByOthers origins = AllByRecursion (λ (e : Entry). origins e.origin ≡ false)

-- Each entry has an origin from 1 to the count.
abbrev pub Numbered : ℕ → List Entry → Type 0
Numbered count = AllByRecursion (λ (e : Entry). (1 ≤ e.origin) × (e.origin ≤ count))

-- how many entries from the place on the origins from 1 to the count made, added up
abbrev pub counted_up_to : List Entry → ℕ → ℕ → ℕ
counted_up_to history from zero = 0
counted_up_to history from (suc n) = counted_up_to history from n + length (entries_of history (suc n) from)
