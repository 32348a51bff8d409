-- Texts that are the same, byte for byte.
use Rattle.std.specs.Prelude.{ℕ, ◌==◌, Bool, List}
use Rattle.std.specs.Cmp.Lexicographic.{pointwise}

abbrev pub same_text : List ℕ → List ℕ → Bool
same_text a b = pointwise ◌==◌ a b
