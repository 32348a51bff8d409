-- Requests out of bytes: a head, by the grammar of httparse (RFC 9112, sections 2 to 5), and exactly its body (section 6).
use Rattle.std.specs.Prelude.{◌≡◌, ℕ, ◌+◌, ◌≤◌, Bool, ◌==◌, ◌&&◌, ◌||◌, if◌then◌else◌, nat_le, List, [], ◌∷◌, ◌++◌, length, drop, map, filter, position, codes, Option, Some, None, option_map, Result, Ok, Err}
use Rattle.std.specs.List.{before_first, list_all, list_any, slice_split}
use Rattle.std.specs.Char.{is_ascii_digit}
use Rattle.std.specs.Str.{str_eq_ignore_ascii_case}
use Rattle.std.specs.Str.Parse.{digits_value}
use Rattle.httparse.specs.Grammar.{RequestHead, ReadsRequest, trim_ows}
use Rattle.httparse.specs.Spans.{name_and_value}
use Rattle.al_http.specs.Blocks.{IsBlock, line_count}
use Rattle.al_http.specs.declared.rejection.Rejection.{Rejection}
use Rattle.al_http.specs.declared.rejection.Rejection.TheVariants.{Bad, BodyTooBig, Unimplemented}

-- the most bytes of a head
abbrev pub head_limit : ℕ
head_limit = 16384

-- the most lines of a head: the request line and those of 64 fields
abbrev pub line_limit : ℕ
line_limit = 65

-- the most fields of a head
abbrev pub field_limit : ℕ
field_limit = 64

-- the most bytes of a body
abbrev pub body_limit : ℕ
body_limit = 1048576

-- the most bytes of a request
abbrev pub request_room : ℕ
request_room = head_limit + body_limit

-- A request: the parts of its head, names as sent and values without the white space around them, and its body.
pub record RequestMessage : Type 0 where
  pub method : List ℕ
  pub target : List ℕ
  pub minor : ℕ
  pub fields : List (List ℕ × List ℕ)
  pub body : List ℕ

abbrev pub is_question_mark : ℕ → Bool
is_question_mark b = b == 63

-- the target up to its first '?', or all of it (RFC 9112, section 3.2.1)
abbrev pub path_of : List ℕ → List ℕ
path_of target = before_first is_question_mark target

-- the target behind its first '?', if it has one
abbrev pub query_of : List ℕ → Option (List ℕ)
query_of target = option_map (λ mark. drop (mark + 1) target) (position is_question_mark target)

-- the values of the fields of that name, in order; names are compared without regard to ASCII case
abbrev pub values_of : List ℕ → List (List ℕ × List ℕ) → List (List ℕ)
values_of name fields = map (λ field. field.1) (filter (λ field. str_eq_ignore_ascii_case field.0 name) fields)

-- the number that 1 to 10 decimal digits write
abbrev pub digits_number : List ℕ → Option ℕ
digits_number value =
    if nat_le 1 (length value) && nat_le (length value) 10 && list_all is_ascii_digit value then Some (digits_value 10 value) else None

-- what the fields Content-Length state: 0 where there is none, and nothing where there are two
abbrev pub stated_length : List (List ℕ) → Option ℕ
stated_length [] = Some 0
stated_length (value ∷ []) = digits_number value
stated_length (value ∷ other ∷ values) = None

-- How fields frame a body, by the first of these that applies: a transfer coding isn't read, a length is stated in one way, and it is
-- within the limit.
abbrev pub framing_by : List (List ℕ) → Option ℕ → Result ℕ Rejection
framing_by (coding ∷ codings) stated = Err Unimplemented
framing_by [] None = Err Bad
framing_by [] (Some size) = if nat_le size body_limit then Ok size else Err BodyTooBig

-- the length of the body, by the fields Transfer-Encoding and Content-Length, or why it isn't read (RFC 9112, section 6.3)
abbrev pub framing_of : List (List ℕ × List ℕ) → Result ℕ Rejection
framing_of fields =
    framing_by (values_of (codes "transfer-encoding") fields) (stated_length (values_of (codes "content-length") fields))

-- The block is, from its first byte to its last, that head, and is within the limits.
pub record IsHead (block : List ℕ) (head : RequestHead) : Type 0 where
  pub is_block : IsBlock block
  pub short : length block ≤ head_limit
  pub few_lines : line_count block ≤ line_limit
  pub reads : ReadsRequest block head []
  pub few_fields : length head.fields ≤ field_limit

-- the names and the values of a head's fields
abbrev pub fields_of : RequestHead → List (List ℕ × List ℕ)
fields_of head = map name_and_value head.fields

-- a head with its body
abbrev pub request_of : RequestHead → List ℕ → RequestMessage
request_of head body =
    record { method = head.method; target = head.target; minor = head.minor; fields = fields_of head; body = body }

abbrev pub is_comma : ℕ → Bool
is_comma b = b == 44

-- a part of a field's value is the member, without the spaces and tabs around it and in any ASCII case
abbrev pub names : List ℕ → List ℕ → Bool
names member part = str_eq_ignore_ascii_case (trim_ows part) member

-- some part of a field's value between commas is the member (RFC 9110, section 5.6.1)
abbrev pub has_member : List ℕ → List ℕ → Bool
has_member member value = list_any (names member) (slice_split is_comma value)

-- nothing is answered behind a request of HTTP/1.0, and none whose Connection field says so (RFC 9112, section 9.3)
abbrev pub is_last : RequestMessage → Bool
is_last request = request.minor == 0 || list_any (has_member (codes "close")) (values_of (codes "connection") request.fields)

-- The bytes are that request, a head and exactly its body, and then the rest.
pub record FirstRequest (bytes : List ℕ) (request : RequestMessage) (rest : List ℕ) : Type 0 where
  pub text : List ℕ
  pub head : RequestHead
  pub parts : bytes ≡ text ++ (request.body ++ rest)
  pub is_head : IsHead text head
  pub frames : framing_of (fields_of head) ≡ Ok (length request.body)
  pub says : request ≡ request_of head request.body
