-- The fault of a reading is the fault of what begins with it.
use Rattle.std.proofs.Common.{◌≡◌, Result, Err, ap}
use Rattle.al_base.specs.Answers.{and_then}
use Rattle.al_input.specs.declared.fault.InputFault.{InputFault}

pub fault_first : {A B : Type 0} (x : Result A InputFault) (read : A → Result B InputFault) (fault : InputFault) → x ≡ Err fault → and_then x read ≡ Err fault
fault_first x read fault is = ap (λ said. and_then said read) is
