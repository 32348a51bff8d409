-- What a request asks of the alarm list.
use Rattle.std.specs.Prelude.{ℕ, Bool, true, false, ◌&&◌, if◌then◌else◌, Option, None, Some, Result, Ok, Err, List, codes}
use Rattle.std.specs.Str.{is_utf8}
use Rattle.al_http.specs.Requests.{RequestMessage, values_of}
use Rattle.al_input.specs.Bodies.{data_of}
use Rattle.al_input.specs.Inputs.{input_of}
use Rattle.al_input.specs.declared.asked.Asked.{Asked}
use Rattle.al_input.specs.declared.asked.Asked.TheVariants.{Whole, Operate}
use Rattle.al_input.specs.declared.fault.BodyFault.{BodyFault}
use Rattle.al_input.specs.declared.fault.BodyFault.TheVariants as bodies
use Rattle.al_input.specs.declared.fault.InputFault.{InputFault}
use Rattle.al_input.specs.declared.fault.InputFault.TheVariants as inputs
use Rattle.al_model.specs.declared.request.Request.{Request}
use Rattle.al_model.specs.declared.request.Request.TheVariants as requests
use Rattle.al_base.specs.Answers.{and_then, or_fault}
use Rattle.al_uri.specs.declared.target.Target.{Target}
use Rattle.al_uri.specs.declared.target.Target.TheVariants.{OneShelf, SetState, PurgeAlarms, CompressAlarms, PurgeShelved, CompressShelved}
use Rattle.serde_json.specs.Data.{Data, no_members, object}
use Rattle.serde_json.specs.Read.{read}
use Rattle.al_restconf.specs.Faults.{faulted}
use Rattle.al_restconf.specs.Fields.{operator_in}
use Rattle.al_restconf.specs.declared.fault.Fault.{Fault}
use Rattle.al_restconf.specs.declared.fault.Fault.TheVariants.{NotJson, MissingOperator, UnknownMember, MissingMember, BadValue, Memory}
use Rattle.al_restconf.specs.declared.method.Method.{Method}
use Rattle.al_restconf.specs.declared.method.Method.TheVariants.{Delete}

-- ---- the operator

-- Who acts is asked where an operator's state is set, and nowhere else.
unfoldable pub operator_at : Target → RequestMessage → Result (Option (List ℕ)) Fault
operator_at (SetState key) request = and_then (operator_in (values_of (codes "alarm-operator") request.fields)) (λ name. Ok (Some name))
operator_at target request = Ok None

-- ---- the members

abbrev pub body_fault : BodyFault → Fault
body_fault bodies.NotJson = NotJson
body_fault bodies.Memory = Memory

abbrev pub input_fault : InputFault → Fault
input_fault inputs.Unknown = UnknownMember
input_fault inputs.Missing = MissingMember
input_fault inputs.BadValue = BadValue
input_fault inputs.Memory = Memory

-- what is asked, by the operator who acts; a body asks for an action only where there is one
abbrev pub asked_by : Option (List ℕ) → Asked → Result Request Fault
asked_by operator (Whole request) = Ok request
asked_by (Some operator) (Operate key state text) = Ok (requests.Operate key state operator text)
asked_by None (Operate key state text) = Err MissingOperator

-- ---- the whole

-- The body is judged as JSON, then the operator, then the members.
unfoldable pub body_asks : Target → RequestMessage → Result Request Fault
body_asks target request =
    and_then (or_fault NotJson (data_of target request.body)) (λ value.
    and_then (operator_at target request) (λ operator.
    and_then (faulted input_fault (input_of target value)) (λ asked.
    asked_by operator asked)))

-- What a DELETE asks stands in its path. The body of other methods says it.
unfoldable pub request_asks : Method → Target → RequestMessage → Result Request Fault
request_asks Delete (OneShelf name spot) request = Ok (requests.DropShelf name)
request_asks method target request = body_asks target request
