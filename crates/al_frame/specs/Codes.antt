-- The codes of words in a frame.
use Rattle.std.specs.Prelude.{ℕ, suc, Bool, true, false, ◌==◌, List, [], ◌∷◌, Option, find}
use Rattle.al_base.specs.Names.{rank_of}
use Rattle.al_base.specs.declared.severity.Severity.{Severity}
use Rattle.al_base.specs.declared.severity.Status.{Status}
use Rattle.al_base.specs.declared.severity.Status.TheVariants.{Cleared, Active}
use Rattle.al_model.specs.declared.event.Side.{Side}
use Rattle.al_model.specs.declared.event.Side.TheVariants as sides
use Rattle.al_select.specs.declared.purge.Compare.{Compare}
use Rattle.al_select.specs.declared.purge.Compare.TheVariants.{Below, Equal, Above}

-- the one of these words that has this code
abbrev pub with_code : {W : Type 0} → (W → ℕ) → List W → ℕ → Option W
with_code code words number = find (λ word. number == code word) words

-- ---- severities and statuses

-- the place of a severity from the least, which is 1
abbrev pub severity_code : Severity → ℕ
severity_code severity = suc (rank_of severity)

abbrev pub status_code : Status → ℕ
status_code Cleared = 0
status_code (Active severity) = severity_code severity

-- ---- rules and filters

abbrev pub side_code : Side → ℕ
side_code sides.List = 0
side_code sides.Shelf = 1

abbrev pub both_sides : List Side
both_sides = sides.List ∷ sides.Shelf ∷ []

-- 0 stands for no comparison
abbrev pub compare_code : Compare → ℕ
compare_code Below = 1
compare_code Equal = 2
compare_code Above = 3

abbrev pub comparisons : List Compare
comparisons = Below ∷ Equal ∷ Above ∷ []

-- ---- inventories

abbrev pub flag_code : Bool → ℕ
flag_code false = 0
flag_code true = 1

abbrev pub flags : List Bool
flags = false ∷ true ∷ []
