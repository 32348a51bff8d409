-- What holds of all bytes.
use Rattle.std.specs.Prelude.{◌≡◌, ℕ, List}
use Rattle.al_journal.specs.Images.{HasBirth, IsNoJournal, IsTornAfter, Shows}

-- bytes show at most one list of payloads, in a journal of one capacity
abbrev pub ShowsOnce : Type 0
ShowsOnce = (image : List ℕ) (capacity other : ℕ) (payloads others : List (List ℕ)) → Shows capacity payloads image → Shows other others image → (capacity ≡ other) × (payloads ≡ others)

-- bytes that show payloads begin with a whole birth
abbrev pub ShowsABirth : Type 0
ShowsABirth = (image : List ℕ) (capacity : ℕ) (payloads : List (List ℕ)) → Shows capacity payloads image → HasBirth capacity image

-- bytes that show payloads aren't torn
abbrev pub ShowsNothingTorn : Type 0
ShowsNothingTorn = (image : List ℕ) (capacity : ℕ) (payloads : List (List ℕ)) (count : ℕ) → Shows capacity payloads image → IsTornAfter count image → ⊥

-- torn bytes begin with a whole birth
abbrev pub TornHasABirth : Type 0
TornHasABirth = (image : List ℕ) (count : ℕ) → IsTornAfter count image → IsNoJournal image → ⊥

-- bytes begin with at most one birth
abbrev pub BornOnce : Type 0
BornOnce = (image : List ℕ) (capacity other : ℕ) → HasBirth capacity image → HasBirth other image → capacity ≡ other
