-- Percent-encoded parts of paths and queries (RFC 3986, section 2.1).
use Rattle.std.specs.Prelude.{ℕ, ◌==◌, ◌&&◌, ◌||◌, not, if◌then◌else◌, Bool, true, false, Result, Ok, Err, List, [], ◌∷◌}
use Rattle.std.specs.Char.{is_ascii_hexdigit}
use Rattle.std.specs.Str.{is_utf8}
use Rattle.percent_encoding.specs.Percent.{percent_decode}
use Rattle.al_uri.specs.declared.fault.UriFault.{UriFault}
use Rattle.al_uri.specs.declared.fault.UriFault.TheVariants.{BadEscape}

-- two hexadecimal digits, of either case
abbrev pub begins_with_digits : List ℕ → Bool
begins_with_digits [] = false
begins_with_digits (high ∷ []) = false
begins_with_digits (high ∷ low ∷ rest) = is_ascii_hexdigit high && is_ascii_hexdigit low

-- two such digits stand behind each `%`, which is 37
abbrev pub has_whole_escapes : List ℕ → Bool
has_whole_escapes [] = true
has_whole_escapes (b ∷ rest) = (not (b == 37) || begins_with_digits rest) && has_whole_escapes rest

-- The part with each escape replaced by its byte, once. It has to be text.
unfoldable pub decoded : List ℕ → Result (List ℕ) UriFault
decoded part = if has_whole_escapes part && is_utf8 (percent_decode part) then Ok (percent_decode part) else Err BadEscape
