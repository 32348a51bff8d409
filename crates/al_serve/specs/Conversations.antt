-- The conversation: an exchange over the bytes of a source and a sink.
use Rattle.std.specs.Prelude.{◌≡◌, ◌⊎◌, ℕ, ◌+◌, ◌==◌, ◌||◌, Option, Some, None, IfSome, List, [], ◌∷◌, ◌++◌, length, map, take, Bool, true, ⊤, Result, MatchResult}
use Rattle.std.specs.Io.KnownBytes.{Appends}
use Rattle.al_base.specs.Readings.{Readings, next_reading, after_reading}
use Rattle.al_http.specs.Services.{Answers}
use Rattle.al_model.specs.declared.kept.Mark.{Mark}
use Rattle.al_http.specs.Fronts.{AppendsFront}
use Rattle.al_http.specs.Requests.{RequestMessage, is_last}
use Rattle.al_http.specs.Responses.{response_text, rejection_response}
use Rattle.al_http.specs.declared.response.Response.{Response}
use Rattle.al_http.specs.Streams.{Cuts, GoOn, IsWhole, request_limit}
use Rattle.al_http.specs.Streams as endings
use Rattle.al_http.specs.declared.framer.Stop.{Stop}
use Rattle.al_http.specs.declared.framer.Stop.TheVariants as stops
use Rattle.al_http.specs.declared.rejection.Rejection.{Rejection}
use Rattle.al_http.specs.declared.rejection.Rejection.TheVariants.{Bad, HeadTooBig, BodyTooBig, Unimplemented}
use Rattle.al_serve.specs.Exchanges.{Turn, IsTurn, IsExchange, GoesOnByOthers, added_by, all_added}
use Rattle.al_serve.specs.declared.conversation.Cause.{Cause}
use Rattle.al_serve.specs.declared.conversation.Ending.{Ending}
use Rattle.al_serve.specs.declared.conversation.Cause.TheVariants.{Ended, Closed, Limit, Cut, Rejected, ReadFault, WriteFault}

-- The bytes of the output and the readings of the clock, before and after, where they are told.
pub record Outside : Type 0 where
  pub old_output : Option (List ℕ)
  pub new_output : Option (List ℕ)
  pub old_clock : Option Readings
  pub new_clock : Option Readings

abbrev pub requests_of : List Turn → List RequestMessage
requests_of turns = map (λ turn. turn.request) turns

abbrev pub readings_of : List Turn → List ℕ
readings_of turns = map (λ turn. turn.reading) turns

-- the text of the response to the request of this number; that of a request that is last, and of the greatest number, tells that it is the last
abbrev pub text_of : ℕ → Turn → List ℕ
text_of number turn = response_text turn.response (is_last turn.request || number == request_limit)

-- the responses' texts, one after the other, the first being that of the request of this number
abbrev pub texts_from : ℕ → List Turn → List ℕ
texts_from number [] = []
texts_from number (turn ∷ turns) = text_of number turn ++ texts_from (number + 1) turns

abbrev pub texts_of : List Turn → List ℕ
texts_of turns = texts_from 1 turns

-- what tells why the input is rejected
abbrev pub rejection_text : Rejection → List ℕ
rejection_text rejection = response_text (rejection_response rejection) true

-- the clock gave these readings, one after the other
abbrev pub Gave : Readings → List ℕ → Readings → Type 0
Gave old [] new = new ≡ old
Gave old (reading ∷ readings) new = (reading ≡ next_reading old) × Gave (after_reading old) readings new

-- the same of a clock that may tell its readings
abbrev pub GaveKnown : Option Readings → List ℕ → Option Readings → Type 0
GaveKnown None readings new = ⊤
GaveKnown (Some old) readings None = ⊥
GaveKnown (Some old) readings (Some new) = Gave old readings new

-- the input, where it is told, begins with those requests
abbrev pub BeginsWith : Option (List ℕ) → List RequestMessage → Type 0
BeginsWith input requests = IfSome input (λ bytes. (rest : List ℕ) × Cuts bytes requests rest)

-- none of the turns had a request that is last
abbrev pub TurnsGoOn : List Turn → Type 0
TurnsGoOn turns = GoOn (requests_of turns)

-- the output, where it is told, grew by the first text, whole, and then by a front of the second
abbrev pub AppendsInto : Option (List ℕ) → Option (List ℕ) → List ℕ → List ℕ → Type 0
AppendsInto old new first second = (count : ℕ) × Appends old new (first ++ take count second)

-- The sink failed in the last turn's response: those before it were written whole, and no turn came after it.
pub record FailsInResponse (input old new : Option (List ℕ)) (turns : List Turn) : Type 0 where
  pub earlier : List Turn
  pub last : Turn
  pub parts : turns ≡ earlier ++ last ∷ []
  pub go_on : TurnsGoOn earlier
  pub requests : BeginsWith input (requests_of turns)
  pub written : AppendsInto old new (texts_of earlier) (text_of (length turns) last)

-- The sink failed in telling why the input is rejected: all responses were written whole.
pub record FailsInRejection (input old new : Option (List ℕ)) (turns : List Turn) : Type 0 where
  pub rejection : Rejection
  pub requests : IsWhole input (requests_of turns) (endings.Rejected rejection)
  pub written : AppendsInto old new (texts_of turns) (rejection_text rejection)

-- The input was rejected, and why was told whole.
pub record EndsInRejection (input old new : Option (List ℕ)) (turns : List Turn) : Type 0 where
  pub rejection : Rejection
  pub requests : IsWhole input (requests_of turns) (endings.Rejected rejection)
  pub written : Appends old new (texts_of turns ++ rejection_text rejection)

-- The requests of the input and what was written, by the cause of the end: up to a fault the requests are first ones of the input.
abbrev pub EndsBy : Cause → Option (List ℕ) → Option (List ℕ) → Option (List ℕ) → List Turn → Type 0
EndsBy Ended input old new turns = IsWhole input (requests_of turns) endings.Ended × Appends old new (texts_of turns)
EndsBy Closed input old new turns = IsWhole input (requests_of turns) endings.Closed × Appends old new (texts_of turns)
EndsBy Limit input old new turns = IsWhole input (requests_of turns) endings.Limit × Appends old new (texts_of turns)
EndsBy Cut input old new turns = IsWhole input (requests_of turns) endings.Cut × Appends old new (texts_of turns)
EndsBy Rejected input old new turns = EndsInRejection input old new turns
EndsBy ReadFault input old new turns = BeginsWith input (requests_of turns) × TurnsGoOn turns × Appends old new (texts_of turns)
EndsBy WriteFault input old new turns = FailsInResponse input old new turns ⊎ FailsInRejection input old new turns

-- A conversation of one origin over an input, from what was seen before it to what was seen last. The ending counts its turns and the entries that they added.
pub record IsConversation (answers : Answers) (origins : ℕ → Bool) (origin : ℕ) (before after : Mark) (input : Option (List ℕ)) (outside : Outside) (ending : Ending) : Type 0 where
  pub turns : List Turn
  pub exchange : IsExchange answers origins origin before turns after
  pub ends : EndsBy ending.cause input outside.old_output outside.new_output turns
  pub readings : GaveKnown outside.old_clock (readings_of turns) outside.new_clock
  pub requests : ending.requests ≡ length turns
  pub entries : ending.entries ≡ length (all_added turns)

-- A request was answered in a turn over what is kept, which added so many entries.
pub record IsAnswered (answers : Answers) (origin : ℕ) (before after : Mark) (request : RequestMessage) (reading added : ℕ) (response : Response) : Type 0 where
  pub turn : Turn
  pub taken : IsTurn answers origin turn
  pub found : turn.before ≡ before
  pub left : after ≡ turn.after
  pub request_is : turn.request ≡ request
  pub reading_is : turn.reading ≡ reading
  pub added_is : added ≡ length (added_by turn)
  pub response_is : turn.response ≡ response

-- A turn of one origin for a request, from what was seen before it to what it left, over a clock. It added so many entries, and its answer is still to be written.
pub record GivesTurn (answers : Answers) (origins : ℕ → Bool) (origin : ℕ) (before after : Mark) (request : RequestMessage) (old_clock new_clock : Option Readings) (added : ℕ) (response : Response) : Type 0 where
  pub turn : Turn
  pub found : GoesOnByOthers origins before turn.before
  pub taken : IsTurn answers origin turn
  pub left : after ≡ turn.after
  pub request_is : turn.request ≡ request
  pub added_is : added ≡ length (added_by turn)
  pub response_is : turn.response ≡ response
  pub reading : GaveKnown old_clock (turn.reading ∷ []) new_clock

-- One turn, and its answer into a sink. A fault of the sink leaves a front of the response.
pub record TakesTurn (answers : Answers) (origins : ℕ → Bool) (origin : ℕ) (before after : Mark) (request : RequestMessage) (outside : Outside) (number added : ℕ) {E : Type 0} (result : Result Bool E) : Type 0 where
  pub turn : Turn
  pub found : GoesOnByOthers origins before turn.before
  pub taken : IsTurn answers origin turn
  pub left : after ≡ turn.after
  pub request_is : turn.request ≡ request
  pub added_is : added ≡ length (added_by turn)
  pub response : MatchResult result (λ _. Appends outside.old_output outside.new_output (text_of number turn)) (λ _. AppendsFront outside.old_output outside.new_output (text_of number turn))
  pub reading : GaveKnown outside.old_clock (turn.reading ∷ []) outside.new_clock

-- The input is rejected, and that was told, or the sink failed in it.
abbrev pub TellsRejection : Rejection → Option (List ℕ) → Option (List ℕ) → Cause → Type 0
TellsRejection rejection old new cause =
    ((cause ≡ Rejected) × Appends old new (rejection_text rejection)) ⊎ ((cause ≡ WriteFault) × AppendsFront old new (rejection_text rejection))

-- how a conversation ends at a stop of its framer
abbrev pub EndsAtStop : Stop → Option (List ℕ) → Option (List ℕ) → Cause → Type 0
EndsAtStop stops.ReadFault old new cause = (cause ≡ ReadFault) × (new ≡ old)
EndsAtStop stops.Cut old new cause = (cause ≡ Cut) × (new ≡ old)
EndsAtStop stops.Bad old new cause = TellsRejection Bad old new cause
EndsAtStop stops.HeadTooBig old new cause = TellsRejection HeadTooBig old new cause
EndsAtStop stops.BodyTooBig old new cause = TellsRejection BodyTooBig old new cause
EndsAtStop stops.Unimplemented old new cause = TellsRejection Unimplemented old new cause
