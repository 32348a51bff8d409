-- The refusals of alarmd: for each its number, status and text (RFC 8040, section 7).
use Rattle.al_http.specs.declared.rejection.Rejection.{Rejection}
use Rattle.al_http.specs.declared.rejection.Rejection.TheVariants.{Bad, HeadTooBig, BodyTooBig, Unimplemented}
use Rattle.std.specs.Prelude.{ℕ, ◌-◌, ◌≤◌, List, [], ◌∷◌, ◌++◌, codes, slice_index_or}

-- what a refusal tells
pub record ErrorRow : Type 0 where
  pub status : ℕ
  pub error_type : List ℕ
  pub tag : List ℕ
  pub message : List ℕ

abbrev pub transport : ℕ → List ℕ → List ℕ → ErrorRow
transport status tag message =
    record { status = status; error_type = codes "transport"; tag = tag; message = message }

abbrev pub protocol : ℕ → List ℕ → List ℕ → ErrorRow
protocol status tag message =
    record { status = status; error_type = codes "protocol"; tag = tag; message = message }

abbrev pub application : ℕ → List ℕ → List ℕ → ErrorRow
application status tag message =
    record { status = status; error_type = codes "application"; tag = tag; message = message }

-- the rows, from number 1 on
unfoldable pub error_rows : List ErrorRow
error_rows =
    transport 400 (codes "malformed-message") (codes "bad head")
    ∷ transport 413 (codes "too-big") (codes "head too big")
    ∷ transport 413 (codes "too-big") (codes "body too big")
    ∷ transport 501 (codes "operation-not-supported") (codes "transfer coding")
    ∷ protocol 404 (codes "invalid-value") (codes "no such path")
    ∷ protocol 400 (codes "invalid-value") (codes "bad escape")
    ∷ protocol 400 (codes "invalid-value") (codes "bad keys")
    ∷ protocol 400 (codes "invalid-value") (codes "bad query")
    ∷ protocol 405 (codes "operation-not-supported") (codes "method not allowed")
    ∷ protocol 400 (codes "malformed-message") (codes "not JSON")
    ∷ protocol 400 (codes "missing-attribute") (codes "missing operator")
    ∷ protocol 400 (codes "invalid-value") (codes "bad operator")
    ∷ protocol 400 (codes "unknown-element") (codes "unknown member")
    ∷ protocol 400 (codes "missing-attribute") (codes "missing member")
    ∷ protocol 400 (codes "invalid-value") (codes "bad value")
    ∷ application 404 (codes "invalid-value") (codes "no such alarm")
    ∷ application 404 (codes "invalid-value") (codes "no such shelf")
    ∷ application 404 (codes "invalid-value") (codes "no such point")
    ∷ application 404 (codes "invalid-value") (codes "not set")
    ∷ application 409 (codes "data-exists") (codes "shelf exists")
    ∷ application 409 (codes "data-exists") (codes "inventory installed")
    ∷ application 400 (codes "invalid-value") (codes "not in the inventory")
    ∷ application 400 (codes "invalid-value") (codes "severity not in the inventory")
    ∷ application 409 (codes "resource-denied") (codes "alarms full")
    ∷ application 409 (codes "resource-denied") (codes "shelves full")
    ∷ application 409 (codes "resource-denied") (codes "clock at its end")
    ∷ application 409 (codes "resource-denied") (codes "journal full")
    ∷ application 500 (codes "operation-failed") (codes "disk fault")
    ∷ application 400 (codes "too-big") (codes "response too big")
    ∷ []

abbrev pub IsErrorRow : ℕ → Type 0
IsErrorRow number = (1 ≤ number) × (number ≤ 29)

-- the row that tells why an input is rejected
abbrev pub rejection_row : Rejection → ℕ
rejection_row Bad = 1
rejection_row HeadTooBig = 2
rejection_row BodyTooBig = 3
rejection_row Unimplemented = 4

-- the row of a number from 1 to 29
abbrev pub error_row : ℕ → ErrorRow
error_row number = slice_index_or error_rows (number - 1) (transport 400 [] [])

-- the error list with one error
abbrev pub error_text : ErrorRow → List ℕ
error_text row =
    codes "{\"ietf-restconf:errors\":{\"error\":[{\"error-message\":\"" ++ row.message
    ++ codes "\",\"error-tag\":\"" ++ row.tag
    ++ codes "\",\"error-type\":\"" ++ row.error_type
    ++ codes "\"}]}}"
