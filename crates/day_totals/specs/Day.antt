-- Business days: which numbers are one (own profile), the date of each in the calendar of ISO 8601,
-- and the day that a month and a day mean.
use Rattle.std.specs.Prelude.{ℕ, zero, suc, ◌+◌, ◌-◌, ◌*◌, ◌/◌, ◌%◌, ◌≤◌, nat_lt, min, ◌≡◌, ◌≢◌}
use Rattle.std.specs.Prelude.{List, [], ◌∷◌, ◌++◌, map, find, Option, if◌then◌else◌, ℤ, pos, ◌+ℤ◌}
use Rattle.std.specs.List.{range_with_len}
use Rattle.std.specs.Str.{bytes_eq}
use Rattle.jiff.specs.Types.{Date}
use Rattle.jiff.specs.Words.{IsYmd, epoch_day, days_in_year, days_in_month}

-- day 0 is 2000-01-01, and this one 2099-12-31
abbrev pub last_day : ℕ
last_day = 36_524

abbrev pub IsDayNumber : ℕ → Type 0
IsDayNumber number = number ≤ last_day

-- a date by its year, its month and its day of the month
pub record CivilDate : Type 0 where
  pub year : ℕ
  pub month : ℕ
  pub day : ℕ

-- jiff's date has these parts
abbrev pub IsDateOf : CivilDate → Date → Type 0
IsDateOf civil date =
    (date.year ≡ pos civil.year) × (date.month ≡ civil.month) × (date.day ≡ civil.day)

-- jiff's date lies so many days after 2000-01-01
abbrev pub IsDaysAfterFirst : ℤ → Date → Type 0
IsDaysAfterFirst days date =
    (first : Date) → IsYmd (pos 2000) (pos 1) (pos 1) first
    → epoch_day date ≡ epoch_day first +ℤ days

-- so many days after the first of a month, in that month or one of so many later months of the
-- year
unfoldable pub date_from_month : ℕ → ℕ → ℕ → ℕ → CivilDate
date_from_month zero year month days = record { year = year; month = month; day = days + 1 }
date_from_month (suc later) year month days =
    if nat_lt days (days_in_month (pos year) month)
    then record { year = year; month = month; day = days + 1 }
    else date_from_month later year (month + 1) (days - days_in_month (pos year) month)

-- a day by its year, and how many days of that year lie before it
pub record YearDay : Type 0 where
  pub year : ℕ
  pub before : ℕ

-- so many days after 1 January of a year, in that year or one of so many later years
unfoldable pub year_day_from : ℕ → ℕ → ℕ → YearDay
year_day_from zero year days = record { year = year; before = days }
year_day_from (suc later) year days =
    if nat_lt days (days_in_year (pos year)) then record { year = year; before = days }
    else year_day_from later (year + 1) (days - days_in_year (pos year))

-- the date of a day of a year
abbrev pub civil_date_of : YearDay → CivilDate
civil_date_of day = date_from_month 11 day.year 1 day.before

-- The date of a day. From 2000 to 2099 each leap year and the three after it have 1,461 days.
unfoldable pub date_of : ℕ → CivilDate
date_of number = civil_date_of (year_day_from 3 (2000 + 4 * (number / 1461)) (number % 1461))

-- a number below 100 in two digits
abbrev pub two_digits : ℕ → List ℕ
two_digits n = (48 + n / 10) ∷ (48 + n % 10) ∷ []

-- month and day, as element 15 has them: MMDD
abbrev pub mmdd_text : CivilDate → List ℕ
mmdd_text date = two_digits date.month ++ two_digits date.day

abbrev pub mmdd_of : ℕ → List ℕ
mmdd_of number = mmdd_text (date_of number)

-- YYYY-MM-DD
abbrev pub iso_text : CivilDate → List ℕ
iso_text date =
    two_digits (date.year / 100) ++ two_digits (date.year % 100)
    ++ 45 ∷ two_digits date.month ++ 45 ∷ two_digits date.day

abbrev pub date_text_of : ℕ → List ℕ
date_text_of number = iso_text (date_of number)

-- no day has this date
abbrev pub IsOnNoDay : Date → Type 0
IsOnNoDay date = (number : ℕ) → IsDayNumber number → ¬ (IsDateOf (date_of number) date)

-- no day's date is written so
abbrev pub IsNoDateText : List ℕ → Type 0
IsNoDateText text = (number : ℕ) → IsDayNumber number → text ≢ date_text_of number

-- how many days before today a month and a day may mean
abbrev pub days_back : ℕ
days_back = 30

-- a day and those of the days before it that exist and may be meant, the latest first
abbrev pub recent_days : ℕ → List ℕ
recent_days today = map (λ back. today - back) (range_with_len 0 (min today days_back + 1))

-- the latest of the recent days that has this month and day
unfoldable pub resolved : List ℕ → ℕ → Option ℕ
resolved mmdd today = find (λ day. bytes_eq (mmdd_of day) mmdd) (recent_days today)
