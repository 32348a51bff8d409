-- The bytes of a journal: a birth, records and a closed gate. Numbers stand with their highest byte first.
use Rattle.std.specs.Prelude.{ℕ, ◌+◌, ◌≤◌, List, [], ◌∷◌, ◌++◌, length}
use Rattle.std.specs.Int.{to_be_bytes, w32, w64}

-- a number in four bytes
unfoldable pub in_four : ℕ → List ℕ
in_four n = to_be_bytes w32 n

-- a number in eight bytes
unfoldable pub in_eight : ℕ → List ℕ
in_eight n = to_be_bytes w64 n

-- `ALJ1`
abbrev pub magic : List ℕ
magic = 65 ∷ 76 ∷ 74 ∷ 49 ∷ []

-- a birth without its gate: the byte 01, the magic, and the capacity in eight bytes
abbrev pub birth : ℕ → List ℕ
birth capacity = 1 ∷ (magic ++ in_eight capacity)

-- the capacities of journals
abbrev pub IsCapacity : ℕ → Type 0
IsCapacity capacity = (4096 ≤ capacity) × (capacity ≤ 268435456)

-- a payload with its length in front, in four bytes
abbrev pub framed : List ℕ → List ℕ
framed payload = in_four (length payload) ++ payload

-- a record for each payload: an open gate, which is the byte 01, and the framed payload
abbrev pub records : List (List ℕ) → List ℕ
records [] = []
records (payload ∷ payloads) = 1 ∷ (framed payload ++ records payloads)

-- what stands before the gate behind the records of these payloads
abbrev pub before_gate : ℕ → List (List ℕ) → List ℕ
before_gate capacity payloads = birth capacity ++ records payloads

-- the place of that gate
abbrev pub gate_of : List (List ℕ) → ℕ
gate_of payloads = 13 + length (records payloads)

-- what is written behind a gate for a payload: its length, the payload, and the next gate, which is shut
abbrev pub piece_of : List ℕ → List ℕ
piece_of payload = framed payload ++ 0 ∷ []
