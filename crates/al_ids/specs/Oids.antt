-- Object identifiers: arcs, joined by dots.
use Rattle.std.specs.Prelude.{◌≡◌, ℕ, ◌+◌, ◌-◌, ◌*◌, ◌<◌, ◌≤◌, ◌==◌, ◌&&◌, ◌||◌, not, Bool, true, false, IsTrue, List, [], ◌∷◌, fold}
use Rattle.std.specs.Char.{is_ascii_digit}
use Rattle.std.specs.List.{AllByRecursion, list_all, join_with_byte}

abbrev pub is_empty : List ℕ → Bool
is_empty [] = true
is_empty (x ∷ xs) = false

-- `0`, or digits of which the first isn't 0
abbrev pub is_arc : List ℕ → Bool
is_arc [] = false
is_arc (first ∷ rest) = list_all is_ascii_digit (first ∷ rest) && (not (first == 48) || is_empty rest)

-- the number that an arc spells
abbrev pub arc_value : List ℕ → ℕ
arc_value arc = fold (λ n digit. 10 * n + (digit - 48)) 0 arc

-- The first arc is 0, 1 or 2, and below 0 and 1 the second is at most 39.
abbrev pub IsRooted : List (List ℕ) → Type 0
IsRooted [] = ⊥
IsRooted (first ∷ []) = ⊥
IsRooted (first ∷ second ∷ rest) = (arc_value first ≤ 2) × (arc_value first < 2 → arc_value second ≤ 39)

-- two or more arcs; 46 is the dot
pub record IsOid (text : List ℕ) : Type 0 where
  pub arcs : List (List ℕ)
  pub each : AllByRecursion (λ arc. IsTrue (is_arc arc)) arcs
  pub rooted : IsRooted arcs
  pub spelling : text ≡ join_with_byte 46 arcs
