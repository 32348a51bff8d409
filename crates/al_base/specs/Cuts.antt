-- Bytes cut at a separator.
use Rattle.std.specs.Prelude.{ℕ, ◌==◌, if◌then◌else◌, Option, None, Some, List, [], ◌∷◌}
use Rattle.std.specs.List.{slice_split}

-- what stands before the first separator, or all where there is none
abbrev pub front : ℕ → List ℕ → List ℕ
front separator [] = []
front separator (b ∷ bytes) = if b == separator then [] else b ∷ front separator bytes

-- what stands behind the first separator, if there is one
abbrev pub behind : ℕ → List ℕ → Option (List ℕ)
behind separator [] = None
behind separator (b ∷ bytes) = if b == separator then Some bytes else behind separator bytes

-- the pieces between the separators, one more than these
abbrev pub pieces : ℕ → List ℕ → List (List ℕ)
pieces separator bytes = slice_split (λ b. b == separator) bytes

-- the pieces of what there is
abbrev pub pieces_left : ℕ → Option (List ℕ) → List (List ℕ)
pieces_left separator None = []
pieces_left separator (Some bytes) = pieces separator bytes
