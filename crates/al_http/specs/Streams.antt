-- The request stream: the requests that a list of bytes is, one after the other, and how it ends.
use Rattle.std.specs.Prelude.{◌≡◌, ℕ, ◌<◌, true, false, List, [], ◌∷◌, ◌++◌, length, Option, Some, None, IfSome, ⊤}
use Rattle.std.specs.List.{list_any}
use Rattle.al_http.specs.Requests.{RequestMessage, is_last, FirstRequest}
use Rattle.al_http.specs.Ends.{HasEnded, IsCut, IsRejected}
use Rattle.al_http.specs.declared.rejection.Rejection.{Rejection}

-- How a stream ends: with its input, by a request that is last, at the greatest number of requests, inside a request, or rejected.
pub data Ending : Type 0 where
  Ended Closed Limit Cut : Ending
  Rejected : Rejection → Ending

-- the most requests of one stream
abbrev pub request_limit : ℕ
request_limit = 1000000

-- the bytes are those requests, in order, and then the rest
abbrev pub Cuts : List ℕ → List RequestMessage → List ℕ → Type 0
Cuts bytes [] rest = bytes ≡ rest
Cuts bytes (request ∷ requests) rest = (after : List ℕ) × FirstRequest bytes request after × Cuts after requests rest

-- none of the requests is last
abbrev pub GoOn : List RequestMessage → Type 0
GoOn requests = list_any is_last requests ≡ false

-- Of the requests the final one is last, and no other; there are not too many of them.
pub record AreClosed (requests : List RequestMessage) : Type 0 where
  pub earlier : List RequestMessage
  pub final : RequestMessage
  pub parts : requests ≡ earlier ++ final ∷ []
  pub go_on : GoOn earlier
  pub last : is_last final ≡ true
  pub few : length earlier < request_limit

-- what is left is no request, but ends so
abbrev pub RestEnds : List ℕ → Ending → Type 0
RestEnds rest Ended = HasEnded rest
RestEnds rest Cut = IsCut rest
RestEnds rest (Rejected rejection) = IsRejected rejection rest
RestEnds rest Closed = ⊥
RestEnds rest Limit = ⊥

-- The requests go on, are not too many, and what is left ends so.
pub record EndsWithRest (requests : List RequestMessage) (rest : List ℕ) (ending : Ending) : Type 0 where
  pub go_on : GoOn requests
  pub few : length requests < request_limit
  pub rest_ends : RestEnds rest ending

-- How a stream ends behind requests: by the final one or at the limit, whatever is left, and else as what is left does.
abbrev pub EndsAs : List RequestMessage → List ℕ → Ending → Type 0
EndsAs requests rest Closed = AreClosed requests
EndsAs requests rest Limit = GoOn requests × (length requests ≡ request_limit)
EndsAs requests rest Ended = EndsWithRest requests rest Ended
EndsAs requests rest Cut = EndsWithRest requests rest Cut
EndsAs requests rest (Rejected rejection) = EndsWithRest requests rest (Rejected rejection)

-- The bytes are the texts of those requests, in order, and a rest that ends the stream.
pub record IsStream (bytes : List ℕ) (requests : List RequestMessage) (ending : Ending) : Type 0 where
  pub rest : List ℕ
  pub cuts : Cuts bytes requests rest
  pub ends : EndsAs requests rest ending

-- A stream, where it is told, was those requests and then what is left of it now.
abbrev pub HasGiven : Option (List ℕ) → List RequestMessage → Option (List ℕ) → Type 0
HasGiven None requests new = ⊤
HasGiven (Some bytes) requests None = ⊥
HasGiven (Some bytes) requests (Some rest) = Cuts bytes requests rest

-- a stream, where it is told, is those requests and ends so
abbrev pub IsWhole : Option (List ℕ) → List RequestMessage → Ending → Type 0
IsWhole stream requests ending = IfSome stream (λ bytes. IsStream bytes requests ending)
