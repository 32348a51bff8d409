use Rattle.std.proofs.Common.{◌≡◌, ℕ, ◌+◌, ◌*◌, ◌/◌, ◌%◌, ◌≤◌, List, length, Option, Some, None, ap, ◌∙◌, arith}
use Rattle.std.specs.Option.{SomeIff}
use Rattle.al_base.specs.Times.{day_after, stamp_text}
use Rattle.al_base.proofs.StampText.{value, two, length-stamp_text, date_read, clock_read}
use Rattle.al_base.proofs.stamp.of_digits.Goals as goal

date_is : (bytes : List ℕ) (ms century year month day : ℕ) → ms ≤ 253402300799999 → bytes ≡ stamp_text ms → century ≡ two bytes 0 → year ≡ two bytes 2 → month ≡ two bytes 5 → day ≡ two bytes 8 → day_after (ms / 86400000) ≡ record { year = 100 * century + year; month = month; day = day }
date_is bytes ms century year month day h same c y m d = rw (c, y, m, d, same) (date_read ms h)

clock_is : (bytes : List ℕ) (ms hour minute second tens ones : ℕ) → bytes ≡ stamp_text ms → hour ≡ two bytes 11 → minute ≡ two bytes 14 → second ≡ two bytes 17 → tens ≡ two bytes 20 → ones ≡ value bytes 22 → 1000 * (60 * (60 * hour + minute) + second) + (10 * tens + ones) ≡ ms % 86400000
clock_is bytes ms hour minute second tens ones same h m s t o = rw (h, m, s, t, o, same) (clock_read ms)

some : (r : Option ℕ) (x ms : ℕ) → SomeIff r (x ≤ 253402300799999) x → x ≡ ms → ms ≤ 253402300799999 → r ≡ Some ms
some (Some y) x ms h e small = ap Some (h.1 ∙ e)
some None x ms h e small = absurd (h (omega arith))

pub returns-then-bytes-ne24 : goal.returns-then-bytes-ne24
returns-then-bytes-ne24 c = λ ms h same. absurd (c.if-bytes-ne24.true (ap length same ∙ length-stamp_text ms))

pub returns-in_err-day : goal.returns-in_err-day
returns-in_err-day c = λ ms h same.
    let date = date_is c.args.bytes.now ms c.two_at.result c.two_at-2.result c.two_at-3.result c.two_at-4.result h same c.two_at.ensures.value c.two_at-2.ensures.value c.two_at-3.ensures.value c.two_at-4.ensures.value in
    let some = c.day_number.ensures.value (ms / 86400000) (omega arith) date in
    let none = c.in_err-day.was in
    absurd (cc)

pub returns : goal.returns
returns c = λ ms h same.
    let date = date_is c.args.bytes.now ms c.two_at.result c.two_at-2.result c.two_at-3.result c.two_at-4.result h same c.two_at.ensures.value c.two_at-2.ensures.value c.two_at-3.ensures.value c.two_at-4.ensures.value in
    let clock = clock_is c.args.bytes.now ms c.two_at-5.result c.two_at-6.result c.two_at-7.result c.two_at-8.result c.value_at.result same c.two_at-5.ensures.value c.two_at-6.ensures.value c.two_at-7.ensures.value c.two_at-8.ensures.value c.value_at.ensures.value in
    let number = c.day_number.ensures.value (ms / 86400000) (omega arith) date in
    let was = c.in_ok-day.was in
    let day_is : c.in_ok-day.day ≡ ms / 86400000 = cc in
    some c.of.result _ ms c.of.ensures (omega (arith, day_is, clock)) h
