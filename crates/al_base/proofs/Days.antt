-- The day that is counted from 1970 is the one with that day number.
use Rattle.std.proofs.Common.{◌≡◌, ◌≢◌, inl, inr, ℕ, zero, suc, ◌+◌, ◌<◌, ◌≤◌, nat_lt, pos, refl, sym, ◌∙◌, arith, rules}
use Rattle.std.proofs.lemmas.Bool.{cases_Bool, ltb-true, ltb-false}
use Rattle.jiff_core.specs.Calendar.{days_from_civil, days_in_month, IsDate}
use Rattle.jiff_core.specs.Date.{epoch_day}
use Rattle.jiff_core.specs.declared.civil.date.Date.{Date}
use Rattle.jiff_core.proofs.DateLemmas.{days_from_civil-day, days_from_civil-next_month, days_from_civil-next_year, days_from_civil-max, epoch_day_injective}
use Rattle.jiff_core.proofs.SignedLemmas.{signed_arith}
use Rattle.jiff_core.proofs.CalendarLemmas.{days_in_month_bounds, days_from_civil-day_count, day_count-epoch}
use Rattle.al_base.specs.Times.{Day, day_after, next_day}

-- a day that the calendar has, with its number
pub record IsDayNumber (d : Day) (n : ℕ) : Type 0 where
  pub year_high : d.year ≤ 9999
  pub month_low : 1 ≤ d.month
  pub month_high : d.month ≤ 12
  pub day_low : 1 ≤ d.day
  pub day_high : d.day ≤ days_in_month (pos d.year) d.month
  pub number : days_from_civil (pos d.year) d.month d.day ≡ pos n

within_month : (d : Day) (n : ℕ) → IsDayNumber d n → d.day < days_in_month (pos d.year) d.month → IsDayNumber (record { year = d.year; month = d.month; day = d.day + 1 }) (suc n)
within_month d n h lt = record {
  year_high = h.year_high;
  month_low = h.month_low;
  month_high = h.month_high;
  day_low = omega arith;
  day_high = omega arith;
  number = omega (arith, signed_arith, h.number, days_from_civil-day (pos d.year) d.month d.day (d.day + 1) h.day_low (omega arith));
}

into_month : (d : Day) (n : ℕ) → IsDayNumber d n → d.day ≡ days_in_month (pos d.year) d.month → d.month < 12 → IsDayNumber (record { year = d.year; month = d.month + 1; day = 1 }) (suc n)
into_month d n h last lt =
    let long = days_in_month_bounds (pos d.year) (d.month + 1) in
    record {
      year_high = h.year_high;
      month_low = omega arith;
      month_high = omega arith;
      day_low = omega arith;
      day_high = omega (arith, long.1);
      number = omega (arith, signed_arith, h.number, days_from_civil-next_month (pos d.year) d.month d.day h.month_low last);
    }

into_year : (d : Day) (n : ℕ) → IsDayNumber d n → d.day ≡ days_in_month (pos d.year) d.month → 12 ≤ d.month → n < 2932896 → IsDayNumber (record { year = d.year + 1; month = 1; day = 1 }) (suc n)
into_year d n h last high before =
    let december : d.month ≡ 12 = omega arith in
    let thirty_first : d.day ≡ 31 = rw december at last in
    let number : days_from_civil (pos d.year) 12 31 ≡ pos n = rw (december, thirty_first) at h.number in
    let not_last : d.year ≢ 9999 = λ e. (let at_end : days_from_civil (pos 9999) 12 31 ≡ pos n = rw e at number in omega (arith, signed_arith, days_from_civil-max)) in
    let next = days_from_civil-next_year (pos d.year) (pos (d.year + 1)) (search rules) refl in
    record {
      year_high = omega arith;
      month_low = omega arith;
      month_high = omega arith;
      day_low = omega arith;
      day_high = omega arith;
      number = omega (arith, signed_arith);
    }

next_day_number : (d : Day) (n : ℕ) → IsDayNumber d n → n < 2932896 → IsDayNumber (next_day d) (suc n)
next_day_number d n h before =
    elim (cases_Bool (nat_lt d.day (days_in_month (pos d.year) d.month))) [
      | inl more ↦ rw more (within_month d n h (ltb-true _ _ more))
      | inr end ↦ rw end (elim (cases_Bool (nat_lt d.month 12)) [
        | inl more ↦ rw more (into_month d n h (omega (arith, ltb-false _ _ end)) (ltb-true _ _ more))
        | inr last ↦ rw last (into_year d n h (omega (arith, ltb-false _ _ end)) (ltb-false _ _ last) before)
      ])
    ]

pub day_after_number : (n : ℕ) → n ≤ 2932896 → IsDayNumber (day_after n) n
unfolding day_after
day_after_number zero h = record {
  year_high = omega arith;
  month_low = omega arith;
  month_high = omega arith;
  day_low = omega arith;
  day_high = omega arith;
  number = omega (arith, signed_arith, days_from_civil-day_count (pos 1970) 1 1, day_count-epoch);
}
day_after_number (suc n) h = next_day_number (day_after n) n (day_after_number n (omega arith)) (omega arith)

-- the date of a day that the calendar has
date_of : (d : Day) (n : ℕ) → IsDayNumber d n → Date
date_of d n h = record { year = pos d.year; month = d.month; day = d.day; year_in = (omega (arith, signed_arith), omega (arith, signed_arith, h.year_high)); month_in = (h.month_low, h.month_high); day_in = (h.day_low, h.day_high) }

-- a date with this number is the day that is counted
pub date_is_day_after : (date : Date) (n : ℕ) → n ≤ 2932896 → epoch_day date ≡ pos n → (date.year ≡ pos (day_after n).year) × (date.month ≡ (day_after n).month) × (date.day ≡ (day_after n).day)
unfolding date_of
date_is_day_after date n h e =
    let day = day_after_number n h in
    epoch_day_injective date (date_of (day_after n) n day) (e ∙ sym day.number)

-- a date of the calendar is counted at its number
pub counted_date : (n : ℕ) → n ≤ 2932896 → IsDate (pos (day_after n).year) (pos (day_after n).month) (pos (day_after n).day)
counted_date n h =
    let day = day_after_number n h in (
      (omega (arith, signed_arith), omega (arith, signed_arith, day.year_high)),
      (omega (arith, signed_arith, day.month_low), omega (arith, signed_arith, day.month_high)),
      (omega (arith, signed_arith, day.day_low), omega (arith, signed_arith, day.day_high)),
    )
