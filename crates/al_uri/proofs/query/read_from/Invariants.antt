use Rattle.std.proofs.Common.{◌≡◌, ◌^◌, ◌<◌, ◌≤◌, drop, length}
use Rattle.std.specs.List.{list_all}
use Rattle.std.specs.Char.{is_ascii_digit}
use Rattle.std.specs.Str.Parse.{digits_value_after}
use Rattle.al_uri.proofs.query.read_from.Given as goal

-- the digits left, behind the number so far, write the whole number
abbrev pub invariant-loop-digit : goal.invariant-loop-digit
invariant-loop-digit l = record {
  few : length l.value ≤ 10;
  fits : l.number < 10 ^ l.digit-index;
  digits : list_all is_ascii_digit (drop l.digit-index l.value) ≡ list_all is_ascii_digit l.value;
  writes : digits_value_after 10 l.number (drop l.digit-index l.value) ≡ digits_value_after 10 0 l.value;
}
