use Rattle.std.proofs.Common.{rules, ◌≡◌, ◌≤◌, ℕ, ℤ, pos, arith, ◌∙◌, sym, ap, Some, None, Result, Ok, Err, IsOk, IfOk, w8, w16, w32, subst}
use Rattle.std.proofs.lemmas.Int.{to_z-of_z, to_z_pos}
use Rattle.std.specs.Result.{result_ok, OkIff}
use Rattle.std.specs.Int.{FitsUnsignedBits}
use lib.IntN.{nat_abs}
use Rattle.jiff_core.specs.Calendar.{IsDate}
use Rattle.jiff_core.specs.Date.{epoch_day, IsYmd}
use Rattle.jiff_core.specs.declared.civil.date.Date.{Date}
use Rattle.jiff_core.specs.declared.error.Error.{Error}
use Rattle.al_base.specs.Times.{day_after}
use Rattle.al_base.proofs.Days.{IsDayNumber, day_after_number, counted_date}
use Rattle.al_base.proofs.stamp.day_number.Goals as goal
use mir.Val.{to_z, of_z}

found : (r : Result Date Error) → IsOk r → result_ok r ≡ None → ⊥
found (Ok d) h e = cc
found (Err d) h e = cc

holds : (r : Result Date Error) (P : Date → Type 0) (d : Date) → IfOk r P → result_ok r ≡ Some d → P d
holds (Ok x) P d h e = let same : x ≡ d = cc in subst P same h
holds (Err x) P d h e = cc

is_date : (n y m d : ℕ) → n ≤ 2932896 → day_after n ≡ record { year = y; month = m; day = d } → y ≤ 9999 → m ≤ 99 → d ≤ 99 → IsDate (to_z w16 y) (to_z w8 m) (to_z w8 d)
is_date n y m d h e year month day =
    rw (to_z_pos w16 y (omega arith), to_z_pos w8 m (omega arith), to_z_pos w8 d (omega arith)) (rw e at (counted_date n h))

pub returns-in_err-date-clause-value : goal.returns-in_err-date-clause-value
returns-in_err-date-clause-value c = λ n h e.
    absurd (found c.new.result (c.new.ensures.succeeds.1 (is_date n c.args.year c.args.month c.args.day h e c.requires.year_high c.requires.month_high c.requires.day_high)) (sym c.ok.ensures.value ∙ c.in_err-date.was))

-- the date that has these parts has their number
numbered : (date : Date) (n y m d : ℕ) → n ≤ 2932896 → day_after n ≡ record { year = y; month = m; day = d } → y ≤ 9999 → m ≤ 99 → d ≤ 99 → IsYmd (to_z w16 y) (to_z w8 m) (to_z w8 d) date → epoch_day date ≡ pos n
numbered date n y m d h e year month day ymd =
    let counted : IsDayNumber (record { year = y; month = m; day = d }) n = rw e at (day_after_number n h) in
    let same_year : date.year ≡ pos y = ymd.0 ∙ to_z_pos w16 y (omega arith) in
    let same_month : pos date.month ≡ pos m = ymd.1 ∙ to_z_pos w8 m (omega arith) in
    let same_day : pos date.day ≡ pos d = ymd.2 ∙ to_z_pos w8 d (omega arith) in
    let month_is : date.month ≡ m = cc in
    let day_is : date.day ≡ d = cc in
    rw (same_year, month_is, day_is) counted.number

gives : {E : Type 0} (r : Result ℕ E) (z : ℤ) (n : ℕ) → OkIff r (FitsUnsignedBits 64 z) (nat_abs z) → z ≡ pos n → n ≤ 2932896 → result_ok r ≡ Some n
gives (Ok x) z n h e small = ap Some (h.1 ∙ ap nat_abs e)
gives (Err x) z n h e small = absurd (h (rw e (omega arith)))

pub returns-clause-value : goal.returns-clause-value
returns-clause-value c = λ n h e.
    let ymd : IsYmd (to_z w16 c.args.year) (to_z w8 c.args.month) (to_z w8 c.args.day) c.in_ok-date.date = holds c.new.result (IsYmd (to_z w16 c.args.year) (to_z w8 c.args.month) (to_z w8 c.args.day)) c.in_ok-date.date c.new.ensures.value (sym c.ok.ensures.value ∙ c.in_ok-date.was) in
    let number : c.to_unix_epoch_day.result ≡ pos n = c.to_unix_epoch_day.ensures.value ∙ numbered c.in_ok-date.date n c.args.year c.args.month c.args.day h e c.requires.year_high c.requires.month_high c.requires.day_high ymd in
    let read : to_z w32 (of_z w32 c.to_unix_epoch_day.result) ≡ pos n = rw number (to_z-of_z w32 (pos n) (search (rules, h))) in
    c.ok-2.ensures.value ∙ gives c.try_from.result (to_z w32 (of_z w32 c.to_unix_epoch_day.result)) n c.try_from.ensures read h
