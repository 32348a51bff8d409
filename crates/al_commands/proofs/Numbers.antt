-- Digits that are no number.
use Rattle.std.proofs.Common.{◌≡◌, ◌<◌, ◌≤◌, ◌^◌, ℕ, Result, Ok, Err, List, arith, sym, subst}
use Rattle.std.specs.Prelude.{IsUtf8, decimal}
use Rattle.std.specs.Str.Parse.{ParsesUnsigned}
use Rattle.std.proofs.lemmas.Fmt.{IsAscii-decimal, parse-decimal}
use Rattle.std.proofs.lemmas.Str.{IsUtf8-from_ascii}

-- digits are text
pub no_text : (digits : List ℕ) (greatest n : ℕ) → greatest < 2 ^ 64 → ¬ (IsUtf8 digits) → n ≤ greatest → digits ≡ decimal n → ⊥
no_text digits greatest n fits none most is =
    none (subst IsUtf8 (sym is) (IsUtf8-from_ascii (decimal n) (IsAscii-decimal n (omega (arith, fits, most)))))

-- digits are read
pub not_parsed : {E : Type 0} (digits : List ℕ) (greatest n : ℕ) (r : Result ℕ E) (e : E) → greatest < 2 ^ 64 → ParsesUnsigned 64 10 digits r → r ≡ Err e → n ≤ greatest → digits ≡ decimal n → ⊥
not_parsed digits greatest n r e fits parses failed most is =
    let parsed = parse-decimal 64 n digits r (omega (arith, fits, most)) (omega (arith, fits, most)) is parses in
    cc

-- they are read as their number
pub other_number : {E : Type 0} (digits : List ℕ) (greatest n m : ℕ) (r : Result ℕ E) → greatest < 2 ^ 64 → ParsesUnsigned 64 10 digits r → r ≡ Ok m → n ≤ greatest → digits ≡ decimal n → m ≡ n
other_number digits greatest n m r fits parses read most is =
    let parsed = parse-decimal 64 n digits r (omega (arith, fits, most)) (omega (arith, fits, most)) is parses in
    cc
