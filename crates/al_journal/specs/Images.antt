-- Which payloads the bytes of a disk show.
use Rattle.std.specs.Prelude.{◌≡◌, ◌≢◌, ◌⊎◌, ℕ, ◌+◌, ◌≤◌, List, [], ◌∷◌, ◌++◌, length}
use Rattle.al_journal.specs.Format.{IsCapacity, before_gate, birth, framed, gate_of}

-- The bytes begin with a whole birth of this capacity, with its gate.
pub record HasBirth (capacity : ℕ) (image : List ℕ) : Type 0 where
  pub gate : ℕ
  pub rest : List ℕ
  pub is : image ≡ birth capacity ++ gate ∷ rest
  pub allowed : IsCapacity capacity

-- the bytes begin with no whole birth
abbrev pub IsNoJournal : List ℕ → Type 0
IsNoJournal image = (capacity : ℕ) → HasBirth capacity image → ⊥

-- The bytes show these payloads: a birth of this capacity, the records of the payloads and a closed gate, which is any byte but 01, all of it within
-- the capacity. What follows is free.
pub record Shows (capacity : ℕ) (payloads : List (List ℕ)) (image : List ℕ) : Type 0 where
  pub gate : ℕ
  pub rest : List ℕ
  pub is : image ≡ before_gate capacity payloads ++ gate ∷ rest
  pub shut : gate ≢ 1
  pub within : gate_of payloads + 1 ≤ capacity
  pub allowed : IsCapacity capacity

-- One further payload stands whole behind the gate, which is any byte, and the gate behind it is closed.
pub record Staged (capacity : ℕ) (payloads : List (List ℕ)) (payload : List ℕ) (image : List ℕ) : Type 0 where
  pub gate : ℕ
  pub next : ℕ
  pub rest : List ℕ
  pub is : image ≡ before_gate capacity payloads ++ gate ∷ (framed payload ++ next ∷ rest)
  pub shut : next ≢ 1
  pub within : gate_of payloads + 6 + length payload ≤ capacity
  pub allowed : IsCapacity capacity

-- the bytes show the payloads, with the further one or without it
abbrev pub ShowsWithOrWithout : ℕ → List (List ℕ) → List ℕ → List ℕ → Type 0
ShowsWithOrWithout capacity payloads payload image = Shows capacity payloads image ⊎ Shows capacity (payloads ++ payload ∷ []) image

-- the bytes begin with no whole birth, or show no payload in a journal of this capacity
abbrev pub NoneOrEmpty : ℕ → List ℕ → Type 0
NoneOrEmpty capacity image = IsNoJournal image ⊎ Shows capacity [] image

-- behind an open gate these bytes hold no whole frame with a gate behind it, of which there is room for so many bytes, the open gate counted
abbrev pub HoldsNone : ℕ → List ℕ → Type 0
HoldsNone room rest = (payload : List ℕ) (next : ℕ) (more : List ℕ) → rest ≡ framed payload ++ next ∷ more → 6 + length payload ≤ room → ⊥

-- Behind so many whole frames the length, the frame or the next gate of an open gate passes the end of the bytes or the capacity.
pub record IsTornAfter (count : ℕ) (image : List ℕ) : Type 0 where
  pub capacity : ℕ
  pub payloads : List (List ℕ)
  pub rest : List ℕ
  pub frames : length payloads ≡ count
  pub is : image ≡ before_gate capacity payloads ++ 1 ∷ rest
  pub within : gate_of payloads + 1 ≤ capacity
  pub allowed : IsCapacity capacity
  pub none : (room : ℕ) → gate_of payloads + room ≡ capacity → HoldsNone room rest
