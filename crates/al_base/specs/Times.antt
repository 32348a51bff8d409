-- Dates, and the text of a moment.
use Rattle.std.specs.Prelude.{ℕ, zero, suc, ◌+◌, ◌/◌, ◌%◌, List, [], ◌∷◌, ◌++◌, codes, nat_lt, if◌then◌else◌, pos}
use Rattle.jiff_core.specs.Calendar.{days_in_month}

-- a day of the Gregorian calendar
pub record Day : Type 0 where
  pub year : ℕ
  pub month : ℕ
  pub day : ℕ

-- the day after
abbrev pub next_day : Day → Day
next_day d =
    if nat_lt d.day (days_in_month (pos d.year) d.month) then record { year = d.year; month = d.month; day = d.day + 1 }
    else (if nat_lt d.month 12 then record { year = d.year; month = d.month + 1; day = 1 }
    else record { year = d.year + 1; month = 1; day = 1 })

-- the day so many days after 1 January 1970
unfoldable pub day_after : ℕ → Day
day_after zero = record { year = 1970; month = 1; day = 1 }
day_after (suc n) = next_day (day_after n)

-- the digit of a number that counts so many
abbrev pub digit : ℕ → ℕ → ℕ
digit n unit = 48 + n / unit % 10

-- the last two, three and four digits of a number
abbrev pub two_digits : ℕ → List ℕ
two_digits n = (digit n 10) ∷ (digit n 1) ∷ []

abbrev pub three_digits : ℕ → List ℕ
three_digits n = (digit n 100) ∷ two_digits n

abbrev pub four_digits : ℕ → List ℕ
four_digits n = (digit n 1000) ∷ three_digits n

-- `2024-05-01`
abbrev pub date_text : Day → List ℕ
date_text d = four_digits d.year ++ codes "-" ++ two_digits d.month ++ codes "-" ++ two_digits d.day

-- `10:00:00.000`, from the milliseconds since midnight
abbrev pub clock_text : ℕ → List ℕ
clock_text ms =
    two_digits (ms / 3600000) ++ codes ":" ++ two_digits (ms / 60000 % 60) ++ codes ":"
    ++ two_digits (ms / 1000 % 60) ++ codes "." ++ three_digits (ms % 1000)

-- `2024-05-01T10:00:00.000Z`, from the milliseconds since 1970
unfoldable pub stamp_text : ℕ → List ℕ
stamp_text ms = date_text (day_after (ms / 86400000)) ++ codes "T" ++ clock_text (ms % 86400000) ++ codes "Z"
