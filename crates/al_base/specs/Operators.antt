-- What is an operator's to set.
use Rattle.std.specs.Prelude.{⊤, Bool, true, false}
use Rattle.al_base.specs.declared.operator.OperatorState.{OperatorState}
use Rattle.al_base.specs.declared.operator.OperatorState.TheVariants.{None0, Ack, Closed, Shelved, UnShelved}

-- the states that an operator sets; shelves set the others
abbrev pub IsOperators : OperatorState → Type 0
IsOperators None0 = ⊤
IsOperators Ack = ⊤
IsOperators Closed = ⊤
IsOperators Shelved = ⊥
IsOperators UnShelved = ⊥

-- whether it is one of them
abbrev pub is_operators : OperatorState → Bool
is_operators None0 = true
is_operators Ack = true
is_operators Closed = true
is_operators Shelved = false
is_operators UnShelved = false
