-- The dates of day numbers follow from month to month and from year to year, as the calendar's do.
use Rattle.std.proofs.Common.{◌≡◌, ℕ, zero, suc, ◌+◌, ◌-◌, ◌*◌, ◌/◌, ◌%◌, ◌<◌, ◌≤◌, inl, inr, refl}
use Rattle.std.proofs.Common.{◌∙◌, subst, arith, ℤ, pos, ◌+ℤ◌}
use Rattle.std.proofs.lemmas.Bool.{cases_lt, lt-ltb, le-ltb}
use Rattle.std.proofs.lemmas.Bool.Decides.{nat_tests}
use Rattle.std.specs.Int.{IsInRange}
use Rattle.jiff.specs.Types.{Date}
use Rattle.jiff.specs.Words.{epoch_day}
use Rattle.jiff.specs.Words.{IsYear, days_in_month, days_in_year}
use Rattle.jiff.proofs.Family.{days_from_civil-day, days_from_civil-next_month}
use Rattle.jiff.proofs.Family.{days_from_civil-next_year}
use Rattle.jiff.proofs.SpanFacts.{signed_arith}
use Rattle.day_totals.specs.Day.{CivilDate, last_day, YearDay, date_from_month}
use Rattle.day_totals.specs.Day.{year_day_from, date_of}

-- the calendar has this day
abbrev pub IsCivil : ℕ → ℕ → ℕ → Type 0
IsCivil y m d = IsYear (pos y) × IsInRange 1 12 m × IsInRange 1 (days_in_month (pos y) m) d

-- jiff's date of these parts
abbrev pub civil_date : (y m d : ℕ) → IsCivil y m d → Date
civil_date y m d h =
    record { year = pos y; month = m; day = d; year_in = h.0; month_in = h.1; day_in = h.2 }

-- and its number in jiff's count
abbrev pub day_at : (y m d : ℕ) → IsCivil y m d → ℤ
day_at y m d h = epoch_day (civil_date y m d h)

-- the date has this number in jiff's count
pub record IsDateAt (date : CivilDate) (day : ℤ) : Type 0 where
  pub civil : IsCivil date.year date.month date.day
  pub at : day_at date.year date.month date.day civil ≡ day

days_in_month_bounds : (y : ℤ) (m : ℕ) → (28 ≤ days_in_month y m) × (days_in_month y m ≤ 31)
days_in_month_bounds y m = grind arith

pub is_year : (y : ℕ) → y ≤ 9999 → IsYear (pos y)
is_year y h = omega (arith, signed_arith)

pub is_first : (y m : ℕ) → y ≤ 9999 → 1 ≤ m → m ≤ 12 → IsCivil y m 1
is_first y m year low high =
    let bounds = days_in_month_bounds (pos y) m in
    (is_year y year, (low, high), (omega arith, omega arith))

-- within a month
day_in_month : (y m d : ℕ) (first : IsCivil y m 1) (h : IsCivil y m d) → day_at y m d h +ℤ pos 1
    ≡ day_at y m 1 first +ℤ pos d
day_in_month y m d first h = days_from_civil-day (pos y) m d 1 h.2.0 (omega arith)

-- the next month
month_next : (y m : ℕ) (first : IsCivil y m 1) (next : IsCivil y (m + 1) 1) →
    day_at y (m + 1) 1 next
    ≡ day_at y m 1 first +ℤ pos (days_in_month (pos y) m)
month_next y m first next =
    let bounds = days_in_month_bounds (pos y) m in
    let last = days_from_civil-next_month (pos y) m (days_in_month (pos y) m) first.1.0 refl in
    let within = days_from_civil-day (pos y) m 1 (days_in_month (pos y) m) (omega arith)
    (omega arith) in
    omega (arith, signed_arith, last, within)

-- the days of a month and of so many months after it
unfoldable days_from_month : ℕ → ℕ → ℕ → ℕ
days_from_month zero y m = days_in_month (pos y) m
days_from_month (suc later) y m = days_in_month (pos y) m + days_from_month later y (m + 1)

days_from_month-year : (y : ℕ) → days_from_month 11 y 1 ≡ days_in_year (pos y)
unfolding days_from_month
days_from_month-year y = grind arith

IsDateAt-at : (date : CivilDate) (here there : ℤ) → here ≡ there → IsDateAt date here →
    IsDateAt date there
IsDateAt-at date here there e h = record { civil = h.civil; at = h.at ∙ e }

in_this_month : (y m days : ℕ) (first : IsCivil y m 1) → days < days_in_month (pos y) m
    → IsDateAt (record { year = y; month = m; day = days + 1 }) (day_at y m 1 first +ℤ pos days)
in_this_month y m days first h =
    let civil : IsCivil y m (days + 1) = (first.0, first.1, (omega arith, omega arith)) in
    record {
      civil = civil;
      at = let same = day_in_month y m (days + 1) first civil in
          omega (arith, signed_arith, same);
    }

date_from_month-at : (later y m days : ℕ) (first : IsCivil y m 1) → y ≤ 9999 → m + later ≤ 12
    → days < days_from_month later y m →
    IsDateAt (date_from_month later y m days) (day_at y m 1 first +ℤ pos days)
unfolding date_from_month days_from_month
date_from_month-at zero y m days first year high within = in_this_month y m days first within
date_from_month-at (suc later) y m days first year high within =
    elim (cases_lt days (days_in_month (pos y) m)) [
      | inl here ↦ rw (lt-ltb days (days_in_month (pos y) m) here)
          (in_this_month y m days first here)
      | inr past ↦
          let next : IsCivil y (m + 1) 1 = is_first y (m + 1) year (omega arith) (omega arith) in
          let rest = date_from_month-at later y (m + 1) (days - days_in_month (pos y) m) next year
          (omega arith)
          (omega arith) in
          let step = month_next y m first next in
          rw (le-ltb days (days_in_month (pos y) m) past)
          (IsDateAt-at _ _ _ (omega (arith, signed_arith, step)) rest)
    ]

-- from the first of a month to that of December
to_december : (later y m : ℕ) (first : IsCivil y m 1) (december : IsCivil y 12 1) → y ≤ 9999 →
    m + later ≡ 12
    → day_at y 12 1 december +ℤ pos 31 ≡ day_at y m 1 first +ℤ pos (days_from_month later y m)
unfolding days_from_month
to_december zero y m first december year e = let last : m ≡ 12 = omega arith in rw last
to_december (suc later) y m first december year e =
    let next : IsCivil y (m + 1) 1 = is_first y (m + 1) year (omega arith) (omega arith) in
    let rest = to_december later y (m + 1) next december year (omega arith) in
    let step = month_next y m first next in
    omega (arith, signed_arith, rest, step)

-- the next year
year_next : (y : ℕ) (first : IsCivil y 1 1) (next : IsCivil (y + 1) 1 1) → y ≤ 9998 →
    day_at (y + 1) 1 1 next
    ≡ day_at y 1 1 first +ℤ pos (days_in_year (pos y))
year_next y first next year =
    let december : IsCivil y 12 1 = is_first y 12 (omega arith) (omega arith) (omega arith) in
    let whole = to_december 11 y 1 first december (omega arith) (omega arith) in
    let new = days_from_civil-next_year (pos y) (pos (y + 1)) (omega (arith, signed_arith))
    (omega (arith, signed_arith)) in
    let last = days_from_civil-day (pos y) 12 1 31 (omega arith) (omega arith) in
    omega (arith, signed_arith, whole, new, last, days_from_month-year y)

-- the days of a year and of so many years after it
unfoldable days_from_year : ℕ → ℕ → ℕ
days_from_year zero y = days_in_year (pos y)
days_from_year (suc later) y = days_in_year (pos y) + days_from_year later (y + 1)

in_this_year : (y days : ℕ) (first : IsCivil y 1 1) → y ≤ 9999 → days < days_in_year (pos y)
    → IsDateAt (date_from_month 11 y 1 days) (day_at y 1 1 first +ℤ pos days)
in_this_year y days first year h =
    date_from_month-at 11 y 1 days first year (omega arith) (rw days_from_month-year h)

-- the year has this day, which has this number in jiff's count
record IsYearDayAt (place : YearDay) (day : ℤ) : Type 0 where
  year : place.year ≤ 9999
  first : IsCivil place.year 1 1
  within : place.before < days_in_year (pos place.year)
  at : day_at place.year 1 1 first +ℤ pos place.before ≡ day

IsYearDayAt-at : (place : YearDay) (here there : ℤ) → here ≡ there → IsYearDayAt place here →
    IsYearDayAt place there
IsYearDayAt-at place here there e h =
    record { year = h.year; first = h.first; within = h.within; at = h.at ∙ e }

year_day_from-at : (later y days : ℕ) (first : IsCivil y 1 1) → y + later ≤ 9998 →
    days < days_from_year later y
    → IsYearDayAt (year_day_from later y days) (day_at y 1 1 first +ℤ pos days)
unfolding year_day_from days_from_year
year_day_from-at zero y days first year within =
    record { year = omega arith; first = first; within = within; at = refl }
year_day_from-at (suc later) y days first year within =
    elim (cases_lt days (days_in_year (pos y))) [
      | inl here ↦ rw (lt-ltb days (days_in_year (pos y)) here)
          (record { year = omega arith; first = first; within = here; at = refl })
      | inr past ↦
          let next : IsCivil (y + 1) 1 1 = is_first (y + 1) 1 (omega arith) (omega arith)
          (omega arith) in
          let rest = year_day_from-at later (y + 1) (days - days_in_year (pos y)) next (omega arith)
          (omega arith) in
          let step = year_next y first next (omega arith) in
          rw (le-ltb days (days_in_year (pos y)) past)
          (IsYearDayAt-at _ _ _ (omega (arith, signed_arith, step)) rest)
    ]

-- four years from a leap year on, before 2100
leap_years : (q : ℕ) → q ≤ 24 → (days_in_year (pos (2000 + 4 * q)) ≡ 366)
    × (days_in_year (pos (2000 + 4 * q + 1)) ≡ 365)
    × (days_in_year (pos (2000 + 4 * q + 1 + 1)) ≡ 365)
    × (days_in_year (pos (2000 + 4 * q + 1 + 1 + 1)) ≡ 365)
leap_years q h = (
  grind (arith, nat_tests),
  grind (arith, nat_tests),
  grind (arith, nat_tests),
  grind
      (arith, nat_tests),
)

-- four years with these lengths
four_years : (y : ℕ) (first : IsCivil y 1 1) (next : IsCivil (y + 1 + 1 + 1 + 1) 1 1) → y ≤ 9000
    → (days_in_year (pos y) ≡ 366) × (days_in_year (pos (y + 1)) ≡ 365)
    × (days_in_year (pos (y + 1 + 1)) ≡ 365)
    × (days_in_year (pos (y + 1 + 1 + 1)) ≡ 365) → day_at (y + 1 + 1 + 1 + 1) 1 1 next
    ≡ day_at y 1 1 first +ℤ pos 1461
four_years y first next year long =
    let second : IsCivil (y + 1) 1 1 = is_first (y + 1) 1 (omega arith) (omega arith) (omega arith)
    in
    let third : IsCivil (y + 1 + 1) 1 1 = is_first (y + 1 + 1) 1 (omega arith) (omega arith)
    (omega arith) in
    let fourth : IsCivil (y + 1 + 1 + 1) 1 1 = is_first (y + 1 + 1 + 1) 1 (omega arith)
    (omega arith) (omega arith) in
    let a = year_next y first second (omega arith) in
    let b = year_next (y + 1) second third (omega arith) in
    let c = year_next (y + 1 + 1) third fourth (omega arith) in
    let d = year_next (y + 1 + 1 + 1) fourth next (omega arith) in
    omega (arith, signed_arith, a, b, c, d, long.0, long.1, long.2, long.3)

-- the years from 2000 on that a leap year's four begin
fours-at : (q y : ℕ) → q ≤ 24 → y ≡ 2000 + 4 * q →
    (start : IsCivil 2000 1 1) (first : IsCivil y 1 1)
    → day_at y 1 1 first ≡ day_at 2000 1 1 start +ℤ pos (1461 * q)
fours-at zero y h e start first =
    let same : 2000 ≡ y = omega arith in
    let P : ℕ → Type 0 = λ n. (k : IsCivil n 1 1) →
    day_at n 1 1 k ≡ day_at 2000 1 1 start +ℤ pos 0 in
    subst P same (λ k. omega (arith, signed_arith)) first
fours-at (suc q) y h e start first =
    let before = 2000 + 4 * q in
    let year : IsCivil before 1 1 = is_first before 1 (omega arith) (omega arith) (omega arith) in
    let rest = fours-at q before (omega arith) refl start year in
    let long = leap_years q (omega arith) in
    let same : before + 1 + 1 + 1 + 1 ≡ y = omega arith in
    let P : ℕ → Type 0 = λ n. (k : IsCivil n 1 1) →
    day_at n 1 1 k ≡ day_at 2000 1 1 start +ℤ pos (1461 * suc q) in
    subst P same (λ k. let four = four_years before year k (omega arith) long in
    omega (arith, signed_arith, rest, four)) first

four_years_long : (q : ℕ) → q ≤ 24 → days_from_year 3 (2000 + 4 * q) ≡ 1461
unfolding days_from_year
four_years_long q h = let long = leap_years q h in omega (arith, long.0, long.1, long.2, long.3)

-- the date of a day is so many days after 2000-01-01
pub date_of-at : (number : ℕ) → number ≤ last_day → (start : IsCivil 2000 1 1)
    → IsDateAt (date_of number) (day_at 2000 1 1 start +ℤ pos number)
unfolding date_of
date_of-at number h start =
    let q = number / 1461 in
    let few : q ≤ 24 = omega arith in
    let first : IsCivil (2000 + 4 * q) 1 1 = is_first (2000 + 4 * q) 1 (omega arith) (omega arith)
    (omega arith) in
    let within : number % 1461 < days_from_year 3 (2000 + 4 * q) =
    rw (four_years_long q few) (omega arith) in
    let place = year_day_from-at 3 (2000 + 4 * q) (number % 1461) first (omega arith) within in
    let date = in_this_year _ _ place.first place.year place.within in
    let before = fours-at q (2000 + 4 * q) few refl start first in
    IsDateAt-at _ _ _ (place.at ∙ omega (arith, signed_arith, before)) date
