use Rattle.std.proofs.Common.{rules, ◌≡◌, ◌≤◌, ℕ, ℤ, pos, arith, w16, w64, ◌∙◌, refl}
use Rattle.std.proofs.lemmas.Int.{to_z-of_z, to_z_pos}
use Rattle.jiff_core.specs.Date.{epoch_day}
use Rattle.jiff_core.specs.declared.civil.date.Date.{Date}
use Rattle.al_base.specs.Times.{day_after}
use Rattle.al_base.proofs.Days.{date_is_day_after, day_after_number}
use Rattle.al_base.proofs.stamp.date_of.Goals as goal
use mir.Val.{to_z, of_z}

same : (date : Date) (n : ℕ) → n ≤ 2932896 → epoch_day date ≡ to_z w64 n → (date.year ≡ pos (day_after n).year) × (date.month ≡ (day_after n).month) × (date.day ≡ (day_after n).day)
same date n h e = date_is_day_after date n h (e ∙ to_z_pos w64 n (omega arith))

-- the year as it is passed on
kept : (z : ℤ) (n : ℕ) → n ≤ 2932896 → z ≡ pos (day_after n).year → to_z w16 (of_z w16 z) ≡ pos (day_after n).year
kept z n h e =
    let day = day_after_number n h in
    rw e (to_z-of_z w16 (pos (day_after n).year) (search (rules, day.year_high)))

pub overflow_cast-result : goal.overflow_cast-result
overflow_cast-result c =
    let e = same c.in-Ok.date c.args.day_number c.requires c.in-Ok.ensures.value in
    let k = kept c.in-Ok.date.year c.args.day_number c.requires e.0 in
    let day = day_after_number c.args.day_number c.requires in
    rw k (search rules)

pub returns-clause-year : goal.returns-clause-year
returns-clause-year c =
    let e = same c.in-Ok.date c.args.day_number c.requires c.in-Ok.ensures.value in
    rw (kept c.in-Ok.date.year c.args.day_number c.requires e.0) refl

pub returns-clause-month : goal.returns-clause-month
returns-clause-month c = c.from.ensures ∙ (same c.in-Ok.date c.args.day_number c.requires c.in-Ok.ensures.value).1

pub returns-clause-day : goal.returns-clause-day
returns-clause-day c = c.from-2.ensures ∙ (same c.in-Ok.date c.args.day_number c.requires c.in-Ok.ensures.value).2
