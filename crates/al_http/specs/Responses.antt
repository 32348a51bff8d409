-- The text of a response (RFC 9112, section 4, in alarmd's profile).
use Rattle.std.specs.Prelude.{ℕ, ◌/◌, ◌%◌, Bool, true, false, ◌||◌, ◌==◌, if◌then◌else◌, List, [], ◌∷◌, ◌++◌, length, flat_map, codes, decimal, Option, None, Some, ⊤}
use Rattle.std.specs.Char.{is_ascii_alphanumeric}
use Rattle.std.specs.Fmt.{digit_glyph}
use Rattle.std.specs.Int.{bit_at}
use Rattle.std.specs.List.{join_by}
use Rattle.al_http.specs.ErrorRows.{IsErrorRow, error_row, error_text, rejection_row}
use Rattle.al_http.specs.Phrases.{HasPhrase, phrase_of}
use Rattle.al_http.specs.declared.rejection.Rejection.{Rejection}
use Rattle.al_http.specs.declared.response.Content.{Content}
use Rattle.al_http.specs.declared.response.Content.TheVariants.{Empty, Row, HostMeta, Tree}
use Rattle.al_http.specs.declared.response.Response.{Response}

abbrev pub crlf : List ℕ
crlf = codes "\r\n"

-- one field of a head
abbrev pub field : List ℕ → List ℕ → List ℕ
field name value = name ++ codes ": " ++ value ++ crlf

unfoldable pub status_line : ℕ → List ℕ
status_line status = codes "HTTP/1.1 " ++ decimal status ++ codes " " ++ phrase_of status ++ crlf

-- the length of the history that the request was answered over
unfoldable pub place_field : Option ℕ → List ℕ
place_field None = []
place_field (Some place) = field (codes "Alarm-Place") (decimal place)

-- a method, where its bit is set
abbrev pub method_at : ℕ → ℕ → List ℕ → List (List ℕ)
method_at allow bit method = if bit_at allow bit == 1 then method ∷ [] else []

-- the methods of these bits, in byte order
abbrev pub methods_of : ℕ → List (List ℕ)
methods_of allow =
    method_at allow 0 (codes "DELETE")
    ++ method_at allow 1 (codes "GET")
    ++ method_at allow 2 (codes "HEAD")
    ++ method_at allow 3 (codes "POST")
    ++ method_at allow 4 (codes "PUT")

unfoldable pub method_list : ℕ → List ℕ
method_list allow = join_by (λ method. method) (codes ", ") (methods_of allow)

-- what a client may do instead
unfoldable pub allow_field : ℕ → ℕ → List ℕ
allow_field status allow = if status == 405 then field (codes "Allow") (method_list allow) else []

-- nothing is answered on this connection after the last response
unfoldable pub connection_field : Bool → List ℕ
connection_field last = if last then field (codes "Connection") (codes "close") else []

-- the body, which a response to HEAD leaves out
unfoldable pub body_of : Content → List ℕ
body_of Empty = []
body_of (Row number) = error_text (error_row number)
body_of HostMeta =
    codes "<XRD xmlns='http://docs.oasis-open.org/ns/xri/xrd-1.0'><Link rel='restconf' href='/restconf'/></XRD>"
body_of (Tree text) = text

unfoldable pub length_field : ℕ → Content → List ℕ
length_field status content =
    if status == 204 then [] else field (codes "Content-Length") (decimal (length (body_of content)))

abbrev pub media_type_of : Content → List ℕ
media_type_of Empty = codes "application/yang-data+json"
media_type_of (Row number) = codes "application/yang-data+json"
media_type_of HostMeta = codes "application/xrd+xml"
media_type_of (Tree text) = codes "application/yang-data+json"

unfoldable pub type_field : Content → List ℕ
type_field content =
    if length (body_of content) == 0 then [] else field (codes "Content-Type") (media_type_of content)

-- the bytes that stand for themselves in a path: `-`, `.`, `_` and `~` beside letters and digits (RFC 3986, section 2.3)
abbrev pub is_unreserved : ℕ → Bool
is_unreserved byte = is_ascii_alphanumeric byte || byte == 45 || byte == 46 || byte == 95 || byte == 126

-- `%` and two upper-case hexadecimal digits for each other byte
abbrev pub escape_of : ℕ → List ℕ
escape_of byte =
    if is_unreserved byte then byte ∷ [] else codes "%" ++ digit_glyph true (byte / 16) ∷ digit_glyph true (byte % 16) ∷ []

unfoldable pub escaped : List ℕ → List ℕ
escaped name = flat_map escape_of name

-- the path of the shelf that a POST made
unfoldable pub location_field : Option (List ℕ) → List ℕ
location_field None = []
location_field (Some name) =
    field (codes "Location") (codes "/restconf/data/ietf-alarms:alarms/control/alarm-shelving/shelf=" ++ escaped name)

-- the status line and the fields that come first
unfoldable pub fields_text : Response → Bool → List ℕ
fields_text response last =
    status_line response.status
    ++ place_field response.place
    ++ allow_field response.status response.allow
    ++ connection_field last
    ++ length_field response.status response.content
    ++ type_field response.content

-- the whole response: fields, an empty line, and the body
unfoldable pub response_text : Response → Bool → List ℕ
response_text response last =
    fields_text response last
    ++ location_field response.location
    ++ crlf
    ++ (if response.bare then [] else body_of response.content)

-- the number of a refusal is one of the rows
abbrev pub HasRow : Content → Type 0
HasRow Empty = ⊤
HasRow (Row number) = IsErrorRow number
HasRow HostMeta = ⊤
HasRow (Tree text) = ⊤

-- the response can be written
abbrev pub HasText : Response → Type 0
HasText response = HasPhrase response.status × HasRow response.content

-- the refusal of a row
abbrev pub refusal : ℕ → Option ℕ → Response
refusal row place =
    record { status = (error_row row).status; place = place; allow = 0; location = None; content = Row row; bare = false }

-- an answer without a body
abbrev pub bodiless : ℕ → Option ℕ → Response
bodiless status place =
    record { status = status; place = place; allow = 0; location = None; content = Empty; bare = false }

-- the answer to a request for which there was no memory
abbrev pub out_of_memory_response : ℕ → Response
out_of_memory_response place = bodiless 503 (Some place)

-- the answer to bytes that are rejected, which is always the last
abbrev pub rejection_response : Rejection → Response
rejection_response rejection = refusal (rejection_row rejection) None
