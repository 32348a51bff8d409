-- Laws of the request stream, and of writes one after the other.
use Rattle.std.specs.Prelude.{◌≡◌, ℕ, ◌<◌, true, List, [], ◌∷◌, ◌++◌, length, Option, Some, None, Ok, Err}
use Rattle.std.specs.Io.KnownBytes.{Appends}
use Rattle.al_http.specs.Fronts.{AppendsFront}
use Rattle.al_http.specs.declared.framer.Stop.TheVariants.{ReadFault}
use Rattle.al_http.specs.declared.framer.Stop.{Stop}
use Rattle.al_http.specs.declared.request.HttpRequest.{HttpRequest}
use Rattle.al_http.specs.Requests.{RequestMessage, is_last, FirstRequest}
use Rattle.al_http.specs.Streams.{Ending, Ended, Closed, Limit, GoOn, RestEnds, request_limit, IsStream, HasGiven, IsWhole}
use Rattle.al_http.specs.Shown.{message_of}
use Rattle.al_http.specs.Moves.{Moves}
use Rattle.al_http.specs.Told.{ending_at}

-- bytes have one first request at most
abbrev pub HasOneRequest : List ℕ → Type 0
HasOneRequest bytes =
    (a b : RequestMessage) (rest other : List ℕ) → FirstRequest bytes a rest → FirstRequest bytes b other → (a ≡ b) × (rest ≡ other)

-- bytes that begin with a request end in no way
abbrev pub GoesOnOrEnds : List ℕ → Type 0
GoesOnOrEnds bytes = (request : RequestMessage) (rest : List ℕ) (ending : Ending) → FirstRequest bytes request rest → ¬ (RestEnds bytes ending)

-- bytes end in one way at most
abbrev pub HasOneEnd : List ℕ → Type 0
HasOneEnd bytes = (a b : Ending) → RestEnds bytes a → RestEnds bytes b → a ≡ b

-- bytes have one list of requests and one ending
abbrev pub IsOneStream : List ℕ → Type 0
IsOneStream bytes =
    (requests others : List RequestMessage) (a b : Ending) → IsStream bytes requests a → IsStream bytes others b → (requests ≡ others) × (a ≡ b)

-- A caller of next begins with no request and the whole stream,
abbrev pub GivesNothingFirst : Type 0
GivesNothingFirst = (start : Option (List ℕ)) → HasGiven start [] start

-- has one more with each request that comes,
abbrev pub GivesOneMore : Type 0
GivesOneMore =
    (start old new : Option (List ℕ)) (requests : List RequestMessage) (request : HttpRequest)
    → HasGiven start requests old → Moves old new (Ok (Some request)) → HasGiven start (requests ++ message_of request ∷ []) new

-- has the same after a read fault,
abbrev pub StaysAtFault : Type 0
StaysAtFault =
    (start old new : Option (List ℕ)) (requests : List RequestMessage)
    → HasGiven start requests old → Moves old new (Err ReadFault) → HasGiven start requests new

-- and with any other answer, at the limit, and behind a request that is last, knows the whole stream.
abbrev pub EndsWhole : Type 0
EndsWhole =
    (start old new : Option (List ℕ)) (requests : List RequestMessage) → HasGiven start requests old → GoOn requests
    → (length requests < request_limit → Moves old new (Ok None) → IsWhole start requests Ended)
    × ((stop : Stop) (ending : Ending) → length requests < request_limit → Moves old new (Err stop) → ending_at stop ≡ Some ending → IsWhole start requests ending)
    × (length requests ≡ request_limit → IsWhole start requests Limit)

abbrev pub ClosesWhole : Type 0
ClosesWhole =
    (start new : Option (List ℕ)) (requests : List RequestMessage) (request : RequestMessage) → HasGiven start (requests ++ request ∷ []) new
    → GoOn requests → is_last request ≡ true → length requests < request_limit → IsWhole start (requests ++ request ∷ []) Closed

-- A text and then another are the two, one after the other,
abbrev pub WholeThenWhole : Type 0
WholeThenWhole = (a b c : Option (List ℕ)) (first second : List ℕ) → Appends a b first → Appends b c second → Appends a c (first ++ second)

-- and a text and then a front of another are a front of the two.
abbrev pub WholeThenFront : Type 0
WholeThenFront = (a b c : Option (List ℕ)) (first second : List ℕ) → Appends a b first → AppendsFront b c second → AppendsFront a c (first ++ second)
