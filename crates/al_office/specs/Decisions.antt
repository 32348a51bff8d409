-- What is to be done with a decision.
use Rattle.std.specs.Prelude.{Result, Ok, Err}
use Rattle.al_model.specs.declared.decision.Decision.{Decision}
use Rattle.al_model.specs.declared.decision.Decision.TheVariants.{Refuse, Same, Change}
use Rattle.al_model.specs.declared.decision.Refusal.{Refusal}
use Rattle.al_model.specs.declared.decision.Reply.{Reply}
use Rattle.al_model.specs.declared.event.Event.{Event}

-- the event of a change, with its reply, or what is answered at once
abbrev pub carried_by : Decision → Result (Event × Reply) (Result Reply Refusal)
carried_by (Refuse refusal) = Err (Err refusal)
carried_by (Same reply) = Err (Ok reply)
carried_by (Change event reply) = Ok (event, reply)
