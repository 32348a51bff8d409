-- Bodies: the trees that they stand for, and what is answered of them.
use Rattle.std.specs.Prelude.{◌≡◌, ⊤, ℕ, Bool, true, false, ◌&&◌, if◌then◌else◌, Option, None, Some, Result, Ok, Err, List, [], ◌∷◌}
use Rattle.std.specs.Str.{is_utf8}
use Rattle.al_uri.specs.declared.target.Target.{Target}
use Rattle.al_uri.specs.declared.target.Target.TheVariants.{PurgeAlarms, CompressAlarms, PurgeShelved, CompressShelved}
use Rattle.serde_json.specs.Data.{Data, no_members, object}
use Rattle.serde_json.specs.Read.{read}
use Rattle.al_input.specs.Faults.{Answers}
use Rattle.al_input.specs.declared.asked.Asked.{Asked}
use Rattle.al_input.specs.declared.fault.BodyFault.{BodyFault}
use Rattle.al_input.specs.declared.fault.BodyFault.TheVariants as bodies
use Rattle.al_input.specs.declared.fault.InputFault.{InputFault}

abbrev pub is_empty : List ℕ → Bool
is_empty [] = true
is_empty (byte ∷ bytes) = false

-- the resources of which something is asked without a body
abbrev pub may_be_empty : Target → Bool
may_be_empty PurgeAlarms = true
may_be_empty CompressAlarms = true
may_be_empty PurgeShelved = true
may_be_empty CompressShelved = true
may_be_empty other = false

-- JSON is UTF-8 text of one value (RFC 8259).
unfoldable pub json_of : List ℕ → Option Data
json_of body = if is_utf8 body then read body else None

-- the tree of a body; an empty body may stand for an empty object
unfoldable pub data_of : Target → List ℕ → Option Data
data_of target body = if may_be_empty target && is_empty body then Some (object no_members) else json_of body

-- The fault of the body says that it has no tree. Want of memory may stand in the place of every answer.
abbrev pub IsBodyFault : Option Data → BodyFault → Type 0
IsBodyFault tree bodies.NotJson = tree ≡ None
IsBodyFault tree bodies.Memory = ⊤

-- The answer is what is read of the body's tree, where it has one.
abbrev pub AnswersBody : Option Data → (Data → Result Asked InputFault) → Result (Result Asked InputFault) BodyFault → Type 0
AnswersBody tree reads (Ok answer) = (value : Data) × (tree ≡ Some value) × Answers (reads value) answer
AnswersBody tree reads (Err fault) = IsBodyFault tree fault
