-- What a history shows, and what its bound keeps.
use Rattle.std.specs.Prelude.{ℕ, ◌≤◌, List, Option, Some, None, take}

-- the items, newest first; how many of them are kept at most, or no bound; and for how many more memory is at hand
pub record HistoryView (E : Type 0) : Type 0 where
  pub items : List E
  pub bound : Option ℕ
  pub spare : ℕ

-- the first of the items, as many as the bound allows: all of them where there is none
abbrev pub newest : {E : Type 0} → Option ℕ → List E → List E
newest None items = items
newest (Some bound) items = take bound items

-- so many items are no more than the bound allows
abbrev pub IsWithin : Option ℕ → ℕ → Type 0
IsWithin None count = Unit {0}
IsWithin (Some bound) count = count ≤ bound
