-- What a framer does to a stream: the bytes that it holds, then those that its source has left.
use Rattle.std.specs.Prelude.{◌≡◌, ℕ, List, Option, Some, None, Result, Ok, Err, IfSome, ⊤}
use Rattle.std.specs.Io.KnownBytes.{prepend_known, Keeps}
use Rattle.al_http.specs.declared.framer.Stop.{Stop}
use Rattle.al_http.specs.declared.framer.Stop.TheVariants.{ReadFault, Cut}
use Rattle.al_http.specs.declared.framer.Stop.TheVariants as stops
use Rattle.al_http.specs.declared.rejection.Rejection.{Rejection}
use Rattle.al_http.specs.declared.rejection.Rejection.TheVariants.{Bad, HeadTooBig, BodyTooBig, Unimplemented}
use Rattle.al_http.specs.declared.request.HttpRequest.{HttpRequest}
use Rattle.al_http.specs.Requests.{RequestMessage, FirstRequest}
use Rattle.al_http.specs.Ends.{HasEnded, IsCut, IsRejected}
use Rattle.al_http.specs.Shown.{message_of}

-- the bytes held, and then those left, where the source tells them
abbrev pub stream_of : List ℕ → Option (List ℕ) → Option (List ℕ)
stream_of held left = prepend_known held left

-- the bytes are all of the stream
abbrev pub IsAll : List ℕ → Option (List ℕ) → Type 0
IsAll held stream = IfSome stream (λ bytes. bytes ≡ held)

-- the stream loses the request at its front
abbrev pub TakesRequest : Option (List ℕ) → Option (List ℕ) → RequestMessage → Type 0
TakesRequest None new request = ⊤
TakesRequest (Some bytes) None request = ⊥
TakesRequest (Some bytes) (Some rest) request = FirstRequest bytes request rest

-- the stop of a rejection
abbrev pub stop_of : Rejection → Stop
stop_of Bad = stops.Bad
stop_of HeadTooBig = stops.HeadTooBig
stop_of BodyTooBig = stops.BodyTooBig
stop_of Unimplemented = stops.Unimplemented

-- what a stop says of the stream, where it is told
abbrev pub Stops : Stop → Option (List ℕ) → Type 0
Stops ReadFault stream = ⊤
Stops Cut stream = IfSome stream IsCut
Stops stops.Bad stream = IfSome stream (IsRejected Bad)
Stops stops.HeadTooBig stream = IfSome stream (IsRejected HeadTooBig)
Stops stops.BodyTooBig stream = IfSome stream (IsRejected BodyTooBig)
Stops stops.Unimplemented stream = IfSome stream (IsRejected Unimplemented)

-- A call of next: a request leaves the stream, or the stream stays, and ends as the answer says.
abbrev pub Moves : Option (List ℕ) → Option (List ℕ) → Result (Option HttpRequest) Stop → Type 0
Moves old new (Ok (Some request)) = TakesRequest old new (message_of request)
Moves old new (Ok None) = Keeps old new × IfSome old HasEnded
Moves old new (Err stop) = Keeps old new × Stops stop old
