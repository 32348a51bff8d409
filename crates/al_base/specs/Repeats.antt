-- Lists that have a value twice.
use Rattle.std.specs.Prelude.{Bool, false, ◌||◌, List, [], ◌∷◌}
use Rattle.std.specs.List.{list_any}

-- Some value is the same as a later one.
abbrev pub repeats : {A : Type 0} → (A → A → Bool) → List A → Bool
repeats same [] = false
repeats same (a ∷ rest) = list_any (same a) rest || repeats same rest
