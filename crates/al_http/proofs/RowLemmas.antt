-- The table of refusals.
use Rattle.std.proofs.Common.{◌≡◌, ℕ, ◌+◌, ◌-◌, ◌≤◌, Bool, true, false, is_some, nat_le, [], length, refl, arith, leb-true}
use Rattle.std.proofs.lemmas.List.Folds.{list_all_at}
use Rattle.std.specs.List.{list_all}
use Rattle.al_http.specs.ErrorRows.{ErrorRow, error_rows, error_row, IsErrorRow, transport}
use Rattle.al_http.specs.Phrases.{HasPhrase, phrase}

count_is : length error_rows ≡ 29
unfolding error_rows
count_is = refl

not_false : (answer : Bool) → (answer ≡ false → ⊥) → answer ≡ true
not_false answer absent = elim answer as (λ b. (b ≡ false → ⊥) → b ≡ true) [ true ↦ λ _. refl | false ↦ λ never. absurd (never refl) ] absent

-- what each row passes, the row of a number passes
passes_at : (test : ErrorRow → Bool) (number : ℕ) → list_all test error_rows ≡ true → IsErrorRow number → test (error_row number) ≡ true
passes_at test number all (low, high) =
    not_false (test (error_row number))
    (λ wrong. let no : list_all test error_rows ≡ false = list_all_at test error_rows (number - 1) (transport 400 [] []) (omega (arith, count_is)) wrong in absurd (cc))

abbrev has_phrase : ErrorRow → Bool
has_phrase row = is_some (phrase row.status)

abbrev is_short : ErrorRow → Bool
is_short row = nat_le (length row.message + length row.tag + length row.error_type) 64

have_phrases : list_all has_phrase error_rows ≡ true
unfolding error_rows
have_phrases = refl

are_short : list_all is_short error_rows ≡ true
unfolding error_rows
are_short = refl

pub row_phrase : (number : ℕ) → IsErrorRow number → HasPhrase (error_row number).status
row_phrase number is_row = passes_at has_phrase number have_phrases is_row

pub row_short : (number : ℕ) → IsErrorRow number
    → length (error_row number).message + length (error_row number).tag + length (error_row number).error_type ≤ 64
row_short number is_row = leb-true _ _ (passes_at is_short number are_short is_row)
