-- What the fields of a request's head ask: which types of answers it accepts, of what type its body is, and which operator acts.
use Rattle.std.specs.Prelude.{⊤, ℕ, ◌==◌, Bool, true, false, not, ◌||◌, if◌then◌else◌, Option, None, Some, Result, Ok, Err, List, [], ◌∷◌, codes, length, slice_get}
use Rattle.std.specs.List.{list_any}
use Rattle.al_input.specs.Bodies.{is_empty}
use Rattle.al_base.specs.Limits.{is_operator_name}
use Rattle.al_http.specs.Requests.{RequestMessage, names, values_of}
use Rattle.al_base.specs.Cuts.{front, pieces}
use Rattle.al_uri.specs.declared.target.Target.{Target}
use Rattle.al_uri.specs.declared.target.Target.TheVariants.{HostMeta}
use Rattle.al_restconf.specs.Faults.{needs}
use Rattle.al_restconf.specs.declared.fault.Fault.{Fault}
use Rattle.al_restconf.specs.declared.fault.Fault.TheVariants.{NotAcceptable, UnsupportedType, MissingOperator, BadOperator}
use Rattle.al_restconf.specs.declared.method.Method.{Method}
use Rattle.al_restconf.specs.declared.method.Method.TheVariants.{Post, Put}

-- A media type is one of these. Its parameters, which stand behind a `;`, don't count; 59 is `;`.
abbrev pub is_of_types : List (List ℕ) → List ℕ → Bool
is_of_types types media_type = list_any (λ type. names type (front 59 media_type)) types

-- ---- the types of answers (RFC 9110, section 12.5.1)

abbrev pub answered_types : List (List ℕ)
answered_types =
    codes "application/yang-data+json" ∷ codes "application/json" ∷ codes "application/*" ∷ codes "*/*" ∷ []

-- some member of the field is a type that is answered; 44 is the comma between them
abbrev pub accepts : List ℕ → Bool
accepts value = list_any (is_of_types answered_types) (pieces 44 value)

-- Without the field every type is accepted.
abbrev pub accept : List (List ℕ) → Bool
accept values = length values == 0 || list_any accepts values

-- The host's metadata, which is no JSON, is told to everyone.
unfoldable pub accepted : Target → RequestMessage → Result ⊤ Fault
accepted HostMeta request = Ok tt
accepted target request = needs (accept (values_of (codes "accept") request.fields)) NotAcceptable

-- ---- the type of the body (RFC 9110, section 8.3)

abbrev pub read_types : List (List ℕ)
read_types = codes "application/yang-data+json" ∷ codes "application/json" ∷ []

-- Without the field the body is JSON.
abbrev pub is_read : Option (List ℕ) → Bool
is_read None = true
is_read (Some value) = is_of_types read_types value

abbrev pub brings_body : Method → Bool
brings_body Post = true
brings_body Put = true
brings_body other = false

-- What isn't read isn't tested. The first field counts.
unfoldable pub typed : Method → RequestMessage → Result ⊤ Fault
typed method request =
    needs (not (brings_body method) || is_empty request.body || is_read (slice_get (values_of (codes "content-type") request.fields) 0)) UnsupportedType

-- ---- the operator

-- It has to be there, once.
abbrev pub operator_in : List (List ℕ) → Result (List ℕ) Fault
operator_in [] = Err MissingOperator
operator_in (name ∷ []) = if is_operator_name name then Ok name else Err BadOperator
operator_in (name ∷ other ∷ names) = Err BadOperator
