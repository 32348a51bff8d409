-- What the digits in a stamp's text say.
use Rattle.std.proofs.Common.{◌≡◌, ℕ, ◌+◌, ◌-◌, ◌*◌, ◌/◌, ◌%◌, ◌≤◌, min, List, [], ◌∷◌, ◌++◌, zero, suc, length, slice_index, ◌<◌, pos, refl, arith}
use Rattle.std.specs.Str.{IsAscii, IsUtf8}
use Rattle.std.proofs.lemmas.Str.{IsUtf8-from_ascii}
use Rattle.jiff_core.proofs.CalendarLemmas.{days_in_month_bounds}
use Rattle.al_base.specs.Times.{Day, day_after, digit, two_digits, three_digits, four_digits, stamp_text}
use Rattle.al_base.proofs.Days.{day_after_number}

abbrev pub value : List ℕ → ℕ → ℕ
value bytes place = min 9 (slice_index bytes place - 48)

abbrev pub two : List ℕ → ℕ → ℕ
two bytes place = 10 * value bytes place + value bytes (place + 1)

pub length-stamp_text : (ms : ℕ) → length (stamp_text ms) ≡ 24
unfolding stamp_text
length-stamp_text ms = refl

one_digit : (n unit : ℕ) → min 9 (digit n unit - 48) ≡ n / unit % 10
one_digit n unit = omega arith

two_digits_are : (n : ℕ) → n ≤ 99 → 10 * min 9 (digit n 10 - 48) + min 9 (digit n 1 - 48) ≡ n
two_digits_are n h = omega arith

three_digits_are : (n : ℕ) → n ≤ 999 → 10 * (10 * min 9 (digit n 100 - 48) + min 9 (digit n 10 - 48)) + min 9 (digit n 1 - 48) ≡ n
three_digits_are n h = omega arith

four_digits_are : (n : ℕ) → n ≤ 9999 → 100 * (10 * min 9 (digit n 1000 - 48) + min 9 (digit n 100 - 48)) + (10 * min 9 (digit n 10 - 48) + min 9 (digit n 1 - 48)) ≡ n
four_digits_are n h = omega arith

-- the day that the text of a stamp names
pub date_read : (ms : ℕ) → ms ≤ 253402300799999 → day_after (ms / 86400000) ≡ record { year = 100 * two (stamp_text ms) 0 + two (stamp_text ms) 2; month = two (stamp_text ms) 5; day = two (stamp_text ms) 8 }
unfolding stamp_text
date_read ms h =
    let d : Day = day_after (ms / 86400000) in
    let counted = day_after_number (ms / 86400000) (omega arith) in
    let month_long = days_in_month_bounds (pos (day_after (ms / 86400000)).year) (day_after (ms / 86400000)).month in
    rw (four_digits_are (day_after (ms / 86400000)).year counted.year_high, two_digits_are (day_after (ms / 86400000)).month (omega (arith, counted.month_high)), two_digits_are (day_after (ms / 86400000)).day (omega (arith, counted.day_high, month_long.0))) refl

-- the time of day that it names
pub clock_read : (ms : ℕ) → 1000 * (60 * (60 * two (stamp_text ms) 11 + two (stamp_text ms) 14) + two (stamp_text ms) 17) + (10 * two (stamp_text ms) 20 + value (stamp_text ms) 22) ≡ ms % 86400000
unfolding stamp_text
clock_read ms =
    let hours = two_digits_are (ms % 86400000 / 3600000) (omega arith) in
    let minutes = two_digits_are (ms % 86400000 / 60000 % 60) (omega arith) in
    let seconds = two_digits_are (ms % 86400000 / 1000 % 60) (omega arith) in
    let thousandths = three_digits_are (ms % 86400000 % 1000) (omega arith) in
    rw (hours, minutes, seconds, thousandths) (omega arith)

-- The bytes are of ASCII.
record AreAscii (bytes : List ℕ) : Type 0 where
  each : IsAscii bytes

nothing : (i : ℕ) → slice_index [] i < 128
nothing i = omega arith

one_more : (byte : ℕ) (rest : List ℕ) → byte < 128 → IsAscii rest → (i : ℕ) → slice_index (byte ∷ rest) i < 128
one_more byte rest small later zero = small
one_more byte rest small later (suc i) = later i

sign : {rest : List ℕ} (byte : ℕ) → byte < 128 → AreAscii rest → AreAscii (byte ∷ rest)
sign {rest} byte small later = record { each = one_more byte rest small later.each }

one : {rest : List ℕ} (n unit : ℕ) → AreAscii rest → AreAscii (digit n unit ∷ rest)
one n unit later = sign (digit n unit) (omega arith) later

two_more : {rest : List ℕ} (n : ℕ) → AreAscii rest → AreAscii (two_digits n ++ rest)
two_more n later = one n 10 (one n 1 later)

three_more : {rest : List ℕ} (n : ℕ) → AreAscii rest → AreAscii (three_digits n ++ rest)
three_more n later = one n 100 (two_more n later)

four_more : {rest : List ℕ} (n : ℕ) → AreAscii rest → AreAscii (four_digits n ++ rest)
four_more n later = one n 1000 (three_more n later)

-- so a stamp's text is UTF-8
pub stamp_text_is_utf8 : (ms : ℕ) → IsUtf8 (stamp_text ms)
unfolding stamp_text
stamp_text_is_utf8 ms =
    let day : Day = day_after (ms / 86400000) in
    let clock : ℕ = ms % 86400000 in
    let end : AreAscii [] = record { each = nothing } in
    let thousandths = three_more (clock % 1000) (sign 90 (omega arith) end) in
    let seconds = two_more (clock / 1000 % 60) (sign 46 (omega arith) thousandths) in
    let minutes = two_more (clock / 60000 % 60) (sign 58 (omega arith) seconds) in
    let hours = two_more (clock / 3600000) (sign 58 (omega arith) minutes) in
    let days = two_more day.day (sign 84 (omega arith) hours) in
    let months = two_more day.month (sign 45 (omega arith) days) in
    IsUtf8-from_ascii (stamp_text ms) (four_more day.year (sign 45 (omega arith) months)).each
