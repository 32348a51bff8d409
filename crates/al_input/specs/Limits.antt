-- The limits of what is asked.
use Rattle.std.specs.Prelude.{ℕ, Option, IfSome, List}
use Rattle.al_base.specs.Limits.{IsOperatorText}
use Rattle.al_base.specs.declared.operator.OperatorState.{OperatorState}
use Rattle.al_ids.specs.declared.key.AlarmKey.{AlarmKey}
use Rattle.al_model.specs.Limits.{IsRequestWithin}
use Rattle.al_ids.specs.Limits.{IsKeyWithin}
use Rattle.al_base.specs.Operators.{IsOperators}
use Rattle.al_input.specs.declared.asked.Asked.{Asked}
use Rattle.al_input.specs.declared.asked.Asked.TheVariants.{Whole, Operate}

-- All of an operator's action but the operator's name is within the limits of requests.
pub record IsActionWithin (key : AlarmKey) (state : OperatorState) (text : Option (List ℕ)) : Type 0 where
  pub key_within : IsKeyWithin key
  pub state_within : IsOperators state
  pub text_within : IfSome text IsOperatorText

-- What is asked is within the limits of requests, as far as a body says it.
abbrev pub IsAskedWithin : Asked → Type 0
IsAskedWithin (Whole request) = IsRequestWithin request
IsAskedWithin (Operate key state text) = IsActionWithin key state text
