-- The words and numbers of clearances.
use Rattle.std.specs.Prelude.{ℕ, List, [], ◌∷◌, codes}
use Rattle.al_select.specs.declared.purge.Clearance.{Clearance}
use Rattle.al_select.specs.declared.purge.Clearance.TheVariants.{Any, Cleared, NotCleared}

-- which alarms are purged (RFC 8632, `alarm-clearance-status`)
abbrev pub clearance_name : Clearance → List ℕ
clearance_name Any = codes "any"
clearance_name Cleared = codes "cleared"
clearance_name NotCleared = codes "not-cleared"

abbrev pub clearances : List Clearance
clearances = Any ∷ Cleared ∷ NotCleared ∷ []

-- the clearance's place among them
abbrev pub clearance_number : Clearance → ℕ
clearance_number Any = 0
clearance_number Cleared = 1
clearance_number NotCleared = 2
