-- How a path is read: byte by byte, from state to state.
use Rattle.std.specs.Prelude.{ℕ, ◌+◌, ◌==◌, ◌||◌, Bool, true, false, if◌then◌else◌, Option, Some, None, List, [], ◌∷◌}
use Rattle.std.specs.Option.{option_map_or}
use Rattle.al_base.specs.Identifiers.{begins_identifier, continues_identifier}
use Rattle.al_ids.specs.declared.path.Part.{Part}
use Rattle.al_ids.specs.declared.path.Part.TheVariants as part
use Rattle.al_ids.specs.declared.path.State.{State}
use Rattle.al_ids.specs.declared.path.State.TheVariants.{Start, Begin, Root, Module, Slash, Open, Word, Colon, Name, Dot, Equals, Value, Quoted, Closed}

abbrev pub when : Bool → State → Option State
when holds state = if holds then Some state else None

-- behind a step's name, or behind a predicate
abbrev pub after_step : ℕ → Option State
after_step byte = if byte == 47 then Some Slash else when (byte == 91) Open

abbrev pub after_name : Part → ℕ → Option State
after_name part.Step byte = after_step byte
after_name part.Predicate byte = when (byte == 61) Equals

abbrev pub next_state : State → ℕ → Option State
next_state Start byte = when (byte == 47) Root
next_state Begin byte = when (byte == 47) Slash
next_state Root byte = when (begins_identifier byte) Module
next_state Module byte = if byte == 58 then Some (Colon part.Step) else when (continues_identifier byte) Module
next_state Slash byte = when (begins_identifier byte) (Word part.Step)
next_state Open byte = if byte == 46 then Some Dot else when (begins_identifier byte) (Word part.Predicate)
next_state (Word p) byte =
    if continues_identifier byte then Some (Word p) else (if byte == 58 then Some (Colon p) else after_name p byte)
next_state (Colon p) byte = when (begins_identifier byte) (Name p)
next_state (Name p) byte = if continues_identifier byte then Some (Name p) else after_name p byte
next_state Dot byte = when (byte == 61) Equals
next_state Equals byte = when ((byte == 39) || (byte == 34)) (Value byte)
next_state (Value quote) byte = if byte == quote then Some Quoted else Some (Value quote)
next_state Quoted byte = when (byte == 93) Closed
next_state Closed byte = after_step byte

-- whether a path may end here
abbrev pub may_end : State → Bool
may_end (Word part.Step) = true
may_end (Name part.Step) = true
may_end Closed = true
may_end state = false

abbrev pub leads_to_end : List ℕ → State → Bool
leads_to_end [] state = may_end state
leads_to_end (byte ∷ rest) state = option_map_or (leads_to_end rest) (next_state state byte) false

-- where the text stops leading to an end: at a byte, or at its length; its first byte has this place
abbrev pub stop_from : ℕ → List ℕ → State → Option ℕ
stop_from place [] state = if may_end state then None else Some place
stop_from place (byte ∷ rest) state = option_map_or (stop_from (place + 1) rest) (next_state state byte) (Some place)
