-- Element 15 of a day is four digits.
use Rattle.std.proofs.Common.{◌≡◌, ℕ, ◌≤◌, true, arith}
use Rattle.std.proofs.lemmas.Bool.Decides.{nat_tests}
use Rattle.iso_codec.proofs.WrittenIsRead.{all_append}
use Rattle.std.specs.List.{list_all}
use Rattle.std.specs.Char.{is_ascii_digit}
use Rattle.std.specs.Prelude.{pos}
use Rattle.jiff.specs.Words.{days_in_month}
use Rattle.day_totals.specs.Day.{last_day, date_of, two_digits, mmdd_of}
use Rattle.day_totals.proofs.MonthsAndYears.{date_of-at}
use Rattle.day_totals.proofs.DatesOfDays.{start}

two_digits-digits : (n : ℕ) → n ≤ 99 → list_all is_ascii_digit (two_digits n) ≡ true
two_digits-digits n h = grind (arith, nat_tests)

pub mmdd_of-digits : (day : ℕ) → day ≤ last_day → list_all is_ascii_digit (mmdd_of day) ≡ true
mmdd_of-digits day h =
    let civil = (date_of-at day h start).civil in
    let month : (date_of day).month ≤ 99 = omega (arith, civil.1) in
    let short : days_in_month (pos (date_of day).year) (date_of day).month ≤ 31 = grind arith in
    let dom : (date_of day).day ≤ 99 = omega (arith, civil.2) in
    let front = two_digits-digits (date_of day).month month in
    let back = two_digits-digits (date_of day).day dom in
    all_append is_ascii_digit (two_digits (date_of day).month) (two_digits (date_of day).day) front
    back
