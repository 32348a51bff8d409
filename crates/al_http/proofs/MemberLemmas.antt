-- The parts of a field's value, one after the other.
use Rattle.std.proofs.Common.{◌≡◌, ℕ, ◌+◌, ◌<◌, Bool, true, false, ◌||◌, List, length, take, drop, None, Some, refl, ◌∙◌, ap, arith}
use Rattle.std.specs.List.{list_any, position, position_or_len, All}
use Rattle.std.proofs.lemmas.Bool.Decides.{nat_tests}
use Rattle.std.proofs.lemmas.List.Sums.{fails_before_first}
use Rattle.std.proofs.lemmas.List.Splits.{slice_split_first, slice_split_none}
use Rattle.al_http.specs.Requests.{is_comma, names, has_member}

-- where a comma was found, the part before it and what is behind it
pub at_comma : (member value : List ℕ) (at : ℕ) → position is_comma value ≡ Some at → has_member member value ≡ (names member (take at value) || has_member member (drop (at + 1) value))
at_comma member value at found =
    let within : position_or_len is_comma value < length value = grind (arith, nat_tests) in
    let is : position_or_len is_comma value ≡ at = grind (arith, nat_tests) in
    ap (list_any (names member)) (slice_split_first is_comma value 0 within) ∙ rw is refl

pub comma_within : (value : List ℕ) (at : ℕ) → position is_comma value ≡ Some at → at < length value
comma_within value at found = grind (arith, nat_tests)

or_false : (b : Bool) → (b || false) ≡ b
or_false true = refl
or_false false = refl

-- where there is none, the value is the one part
pub no_comma : (member value : List ℕ) → position is_comma value ≡ None → has_member member value ≡ names member value
no_comma member value none =
    ap (list_any (names member)) (slice_split_none is_comma value fails) ∙ or_false (names member value)
  where
    fails : All (λ b. is_comma b ≡ false) value
    fails k d low = fails_before_first is_comma value k d (grind (arith, nat_tests))
