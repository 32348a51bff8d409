-- Why a request isn't answered by what it asks for, and how that is told (RFC 8040, section 7).
use Rattle.std.specs.Prelude.{◌≡◌, ⊤, ℕ, Bool, true, false, Some, Result, Ok, Err}
use Rattle.al_http.specs.Responses.{bodiless, out_of_memory_response, refusal}
use Rattle.al_http.specs.declared.response.Response.{Response}
use Rattle.al_model.specs.Refusals.{refusal_number}
use Rattle.al_model.specs.declared.decision.Refusal.{Refusal}
use Rattle.al_model.specs.declared.decision.Refusal.TheVariants as refusals
use Rattle.al_base.specs.Answers.{AnswersBy}
use Rattle.al_restconf.specs.declared.fault.Fault.{Fault}
use Rattle.al_restconf.specs.declared.fault.Fault.TheVariants.{NoSuchPath, BadEscape, BadKeys, BadQuery, NoSuchMethod, NotAcceptable, UnsupportedType, NotJson, MissingOperator, BadOperator, UnknownMember, MissingMember, BadValue, NotSet, Refused, Memory}

-- the row of the table of error answers; those that have none of their own are told in another way
abbrev pub row_of : Fault → ℕ
row_of NoSuchPath = 5
row_of BadEscape = 6
row_of BadKeys = 7
row_of BadQuery = 8
row_of (NoSuchMethod allow) = 9
row_of NotJson = 10
row_of MissingOperator = 11
row_of BadOperator = 12
row_of UnknownMember = 13
row_of MissingMember = 14
row_of BadValue = 15
row_of NotSet = 19
row_of (Refused refusal) = refusal_number refusal
row_of other = 29

-- the refusal of a row, with the methods that a resource has
abbrev pub method_refusal : ℕ → ℕ → Response
method_refusal allow place = record (refusal 9 (Some place)) { allow = allow }

-- how a fault is told at a place
abbrev pub told : ℕ → Fault → Response
told place (NoSuchMethod allow) = method_refusal allow place
told place NotAcceptable = bodiless 406 (Some place)
told place UnsupportedType = bodiless 415 (Some place)
told place (Refused refusals.Memory) = out_of_memory_response place
told place Memory = out_of_memory_response place
told place fault = refusal (row_of fault) (Some place)

-- a refusal of the alarm list
abbrev pub refused : Refusal → Fault
refused refusals.Memory = Memory
refused refusal = Refused refusal

-- the fault that is said; want of memory may stand for every answer
abbrev pub IsDue : {A : Type 0} → Result A Fault → Fault → Type 0
IsDue said Memory = ⊤
IsDue said fault = said ≡ Err fault

-- The answer is what is said, value or fault, or want of memory.
abbrev pub Answers : {A : Type 0} → Result A Fault → Result A Fault → Type 0
Answers said answer = AnswersBy IsDue said answer

-- a fault for each of another kind
abbrev pub faulted : {A E : Type 0} → (E → Fault) → Result A E → Result A Fault
faulted fault_of (Ok a) = Ok a
faulted fault_of (Err e) = Err (fault_of e)

-- what has to hold, or the fault
abbrev pub needs : Bool → Fault → Result ⊤ Fault
needs true fault = Ok tt
needs false fault = Err fault

-- The answer, seen so, is what is said.
abbrev pub Gives : {A B : Type 0} → (A → B) → Result A Fault → Result B Fault → Type 0
Gives seen (Ok a) said = said ≡ Ok (seen a)
Gives seen (Err fault) said = IsDue said fault
