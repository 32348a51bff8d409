-- What reads as a natural number is spelled in plain digits.
use Rattle.std.proofs.Common.{◌≡◌, ℕ, ◌^◌, ◌&&◌, Bool, true, false, if◌then◌else◌, None, Some, List, length, drop, refl}
use Rattle.std.specs.Bool.{Decides}
use Rattle.std.specs.Float.{binary64, float_is_finite}
use Rattle.std.specs.Prelude.{◌==◌, nat_lt, nat_le, not, slice_index}
use Rattle.std.proofs.lemmas.Bool.{false≢true, ltb-true}
use Rattle.std.proofs.lemmas.Bool.Decides.{Decides-eqb}
use Rattle.fast_float.specs.Text.{IsInteger, Parts, digits_of, minus, nearest, scan, with_sign}
use Rattle.serde_json.proofs.Numbers.{number_of-decimal}
use Rattle.serde_json.specs.Data.{unsigned, negative, float}
use Rattle.serde_json.specs.Read.{float_of, is_integer, number_from, number_of}
use Rattle.al_input.specs.Numbers.{DecimalsAreNaturals, IsPlainNumber, NaturalsArePlain}

and_true : (a b : Bool) → a && b ≡ true → (a ≡ true) × (b ≡ true)
and_true true b h = (refl, h)
and_true false b h = cc

not_true : (a : Bool) → not a ≡ true → a ≡ false
not_true true h = cc
not_true false h = refl

never_float : (sign : Bool) (p : Parts) (n : ℕ) → float_of sign p ≡ Some (unsigned n) → ⊥
never_float sign p n h = never (float_is_finite (nearest binary64 sign p)) h
  where
    never : (finite : Bool) → (if finite then Some (float (nearest binary64 sign p)) else None) ≡ Some (unsigned n) → ⊥
    never true h = cc
    never false h = cc

-- a signed number is none
never_signed : (p : Parts) (n : ℕ) → number_from true p ≡ Some (unsigned n) → ⊥
never_signed p n h = never (is_integer p && nat_lt 0 (digits_of p) && nat_le (digits_of p) (2 ^ 63)) h
  where
    never : (whole : Bool) → (if whole then Some (negative (with_sign true (digits_of p))) else float_of true p) ≡ Some (unsigned n) → ⊥
    never true h = cc
    never false h = never_float true p n h

natural_parts : (p : Parts) (n : ℕ) → number_from false p ≡ Some (unsigned n) → (is_integer p ≡ true) × (digits_of p ≡ n)
natural_parts p n h = whole (is_integer p && nat_lt (digits_of p) (2 ^ 64)) (and_true (is_integer p) (nat_lt (digits_of p) (2 ^ 64))) h
  where
    whole : (test : Bool) → (test ≡ true → (is_integer p ≡ true) × (nat_lt (digits_of p) (2 ^ 64) ≡ true))
        → (if test then Some (unsigned (digits_of p)) else float_of false p) ≡ Some (unsigned n) → (is_integer p ≡ true) × (digits_of p ≡ n)
    whole true parts h = ((parts refl).0, cc)
    whole false parts h = absurd (never_float false p n h)

integer : (p : Parts) → is_integer p ≡ true → IsInteger p
integer p h =
    let outer = and_true (nat_lt 0 (length p.whole) && not p.point) (length p.exponent == 0) h in
    let inner = and_true (nat_lt 0 (length p.whole)) (not p.point) outer.0 in
    (ltb-true 0 (length p.whole) inner.0, not_true p.point inner.1, (Decides-eqb (length p.exponent) 0).0 outer.1)

by_sign : (s : List ℕ) (n : ℕ) (signed : Bool) → Decides signed (slice_index s 0 ≡ minus)
    → (if signed then number_from true (scan (drop 1 s)) else number_from false (scan s)) ≡ Some (unsigned n) → IsPlainNumber s n
by_sign s n true decides h = absurd (never_signed (scan (drop 1 s)) n h)
by_sign s n false decides h =
    let parts = natural_parts (scan s) n h in
    record { no_sign = λ is. false≢true (decides.1 is); digits = integer (scan s) parts.0; value = parts.1 }

pub naturals_are_plain : NaturalsArePlain
unfolding number_of
naturals_are_plain s n h = by_sign s n (slice_index s 0 == minus) (Decides-eqb (slice_index s 0) minus) h

pub decimals_are_naturals : DecimalsAreNaturals
decimals_are_naturals = number_of-decimal
