-- Pieces between separators, the first of them cut off.
use Rattle.std.proofs.Common.{◌≡◌, ℕ, ◌+◌, ◌==◌, Bool, true, false, List, [], ◌∷◌, Option, None, Some, Bor, length, refl}
use Rattle.al_base.specs.Cuts.{behind, front, pieces, pieces_left}

split_at : (separator b : ℕ) (bytes : List ℕ) (test : Bool) → b == separator ≡ test → pieces separator bytes ≡ front separator bytes ∷ pieces_left separator (behind separator bytes) → pieces separator (b ∷ bytes) ≡ front separator (b ∷ bytes) ∷ pieces_left separator (behind separator (b ∷ bytes))
split_at separator b bytes true e rest = rw e refl
split_at separator b bytes false e rest = rw (e, rest) refl

pub pieces_cut : (separator : ℕ) (bytes : List ℕ) → pieces separator bytes ≡ front separator bytes ∷ pieces_left separator (behind separator bytes)
pieces_cut separator [] = refl
pieces_cut separator (b ∷ bytes) = split_at separator b bytes (b == separator) refl (pieces_cut separator bytes)

-- how much is left to be cut
abbrev pub size_left : Option (Bor (List ℕ)) → ℕ
size_left None = 0
size_left (Some bytes) = length bytes.now + 1
