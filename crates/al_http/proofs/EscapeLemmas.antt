-- A name as it stands in a path, part by part.
use Rattle.std.proofs.Common.{◌≡◌, ℕ, ◌+◌, ◌<◌, ◌≤◌, ◌/◌, ◌%◌, false, List, [], ◌∷◌, ◌++◌, length, take, drop, get_or, flat_map, sym, ap, ◌∙◌, refl, codes, Some, lit≤, arith}
use Rattle.std.proofs.lemmas.Grind.{flat_map-append}
use Rattle.std.proofs.lemmas.List.{append-nil, take_more, take-append-drop}
use Rattle.percent_encoding.specs.Percent.{percent_encode_byte}
use Rattle.al_http.specs.Responses.{escaped, escape_of, is_unreserved, location_field, crlf}

-- the escape of a byte is that of the crate `percent_encoding`
pub escape_is : (byte : ℕ) → byte < 256 → is_unreserved byte ≡ false → (percent_encode_byte byte ≡ escape_of byte) × (length (percent_encode_byte byte) ≤ 3)
unfolding percent_encode_byte
escape_is byte small reserved =
    let high : byte / 16 % 16 ≡ byte / 16 = omega arith in
    (rw (high, reserved) refl, lit≤ tt)

pub escaped_none : escaped [] ≡ []
unfolding escaped
escaped_none = refl

pub escaped_more : (name : List ℕ) (i : ℕ) (d : ℕ) → i < length name → escaped (take (i + 1) name) ≡ escaped (take i name) ++ escape_of (get_or name i d)
unfolding escaped
escaped_more name i d within =
    ap (flat_map escape_of) (take_more name i d within) ∙ flat_map-append escape_of (take i name) (get_or name i d ∷ [])
    ∙ ap (λ (zs : List ℕ). flat_map escape_of (take i name) ++ zs) (append-nil (escape_of (get_or name i d)))

pub escaped_parts : (name : List ℕ) (i : ℕ) → escaped (take i name) ++ escaped (drop i name) ≡ escaped name
unfolding escaped
escaped_parts name i = sym (flat_map-append escape_of (take i name) (drop i name)) ∙ ap (flat_map escape_of) (take-append-drop i name)

-- what stands before the name
abbrev pub before_name : List ℕ
before_name = codes "Location: " ++ codes "/restconf/data/ietf-alarms:alarms/control/alarm-shelving/shelf="

pub location_is : (name : List ℕ) → location_field (Some name) ≡ (before_name ++ escaped name) ++ crlf
unfolding location_field
location_is name = refl
