-- How natural numbers are spelled.
use Rattle.std.specs.Prelude.{◌≡◌, ◌≢◌, ℕ, ◌<◌, ◌^◌, List, Some, slice_index}
use Rattle.std.specs.Fmt.{decimal}
use Rattle.fast_float.specs.Text.{IsInteger, digits_of, minus, scan}
use Rattle.serde_json.specs.Data.{unsigned}
use Rattle.serde_json.specs.Read.{number_of}

-- digits without a sign, a point or an exponent, whose value is the number
pub record IsPlainNumber (spelling : List ℕ) (n : ℕ) : Type 0 where
  pub no_sign : slice_index spelling 0 ≢ minus
  pub digits : IsInteger (scan spelling)
  pub value : digits_of (scan spelling) ≡ n

-- What reads as a natural number is spelled so.
abbrev pub NaturalsArePlain : Type 0
NaturalsArePlain = (spelling : List ℕ) (n : ℕ) → number_of spelling ≡ Some (unsigned n) → IsPlainNumber spelling n

-- The decimal spelling of a number of 64 bits reads as the number.
abbrev pub DecimalsAreNaturals : Type 0
DecimalsAreNaturals = (n : ℕ) → n < 2 ^ 64 → number_of (decimal n) ≡ Some (unsigned n)
