-- The machine of the resources: over a history in a journal of a capacity, a request of an origin at a reading of the clock has this answer, and
-- adds these entries.
use Rattle.std.specs.Prelude.{◌≡◌, ◌⊎◌, ◌++◌, ℕ, Bool, Result, Ok, Err, List, [], length}
use Rattle.al_base.specs.Outside.{Rose}
use Rattle.al_http.specs.Requests.{RequestMessage}
use Rattle.al_http.specs.declared.response.Response.{Response}
use Rattle.al_model.specs.declared.decision.Refusal.TheVariants.{Disk}
use Rattle.al_model.specs.declared.entry.Entry.{Entry}
use Rattle.al_model.specs.declared.kept.Mark.{Mark}
use Rattle.al_base.specs.Answers.{and_then}
use Rattle.al_uri.specs.declared.target.Target.{Target}
use Rattle.al_restconf.specs.Bodies.{request_asks}
use Rattle.al_restconf.specs.Changes.{Answer, IsAdding, Verdict, Tell, changed, in_journal}
use Rattle.al_restconf.specs.Faults.{told}
use Rattle.al_restconf.specs.Fields.{accepted, typed}
use Rattle.al_restconf.specs.Methods.{is_bare, method_of, methods_at, one_of}
use Rattle.al_restconf.specs.Reads.{read_of}
use Rattle.al_restconf.specs.Targets.{target_in}
use Rattle.al_restconf.specs.declared.fault.Fault.{Fault}
use Rattle.al_restconf.specs.declared.fault.Fault.TheVariants.{Refused}
use Rattle.al_restconf.specs.declared.method.Method.{Method}
use Rattle.al_restconf.specs.declared.method.Method.TheVariants.{Get, Head}

-- a read adds nothing
abbrev pub only_read : Result Response Fault → Result Verdict Fault
only_read said = and_then said (λ response. Ok (Tell response))

-- HEAD is answered as GET is. Every other method asks for a change.
unfoldable pub done_by : List Entry → ℕ → ℕ → Target → Method → RequestMessage → Result Verdict Fault
done_by before origin reading target Get request = only_read (read_of before target)
done_by before origin reading target Head request = only_read (read_of before target)
done_by before origin reading target method request =
    and_then (request_asks method target request) (λ asked. changed before origin reading target asked)

-- The resource that the request's head names and a method that this has, by the first of these that refuses: the path with its query, the method,
-- the types of answers, and the type of the body.
unfoldable pub admitted : RequestMessage → Result (Target × Method) Fault
admitted request =
    and_then (target_in request) (λ target.
    and_then (one_of (methods_at target) (method_of request.method)) (λ method.
    and_then (accepted target request) (λ _.
    and_then (typed method request) (λ _.
    Ok (target, method)))))

-- What the request comes to: what refuses its head comes first, then the body, what it asks for, and the alarm list.
unfoldable pub verdict_of : List Entry → ℕ → ℕ → RequestMessage → Result Verdict Fault
verdict_of before origin reading request =
    and_then (admitted request) (λ named. done_by before origin reading named.0 named.1 request)

-- whether the answer leaves its body out
abbrev pub is_head : RequestMessage → Bool
is_head request = is_bare (method_of request.method)

abbrev pub barely : Bool → Response → Response
barely bare response = record response { bare = bare }

abbrev pub answer_by : ℕ → Bool → Result Answer Fault → Answer
answer_by place bare (Ok answer) = record { response = barely bare answer.response; entries = answer.entries }
answer_by place bare (Err fault) = record { response = barely bare (told place fault); entries = [] }

-- The answer, which tells the length of the history before it. What the request comes to is judged first, and the journal last.
unfoldable pub answer_of : ℕ → List Entry → ℕ → RequestMessage → ℕ → Answer
answer_of capacity before origin request reading =
    answer_by (length before) (is_head request) (and_then (verdict_of before origin reading request) (in_journal capacity before))

-- The response is the machine's, and the history grew by just its entries.
pub record Answers (before after : Mark) (origin : ℕ) (request : RequestMessage) (reading : ℕ) (response : Response) : Type 0 where
  pub response_is : response ≡ (answer_of before.fixed.capacity before.entries origin request reading).response
  pub grown : after.entries ≡ before.entries ++ (answer_of before.fixed.capacity before.entries origin request reading).entries

-- The disk failed in this turn, in which an entry was to be added; that is told, and none was added.
pub record TellsDiskFault (before after : Mark) (origin : ℕ) (request : RequestMessage) (reading : ℕ) (response : Response) : Type 0 where
  pub response_is : response ≡ barely (is_head request) (told (length before.entries) (Refused Disk))
  pub adding : IsAdding (verdict_of before.entries origin reading request)
  pub rose : Rose before.faults after.faults
  pub same : after.entries ≡ before.entries

-- what the service may answer: the machine's answer, or that the disk failed
abbrev pub IsAnswer : Mark → ℕ → RequestMessage → ℕ → Response → Mark → Type 0
IsAnswer before origin request reading response after =
    Answers before after origin request reading response ⊎ TellsDiskFault before after origin request reading response
