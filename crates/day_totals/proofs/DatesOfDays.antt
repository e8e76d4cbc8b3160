-- The date of a day number is the calendar's, so many days after 2000-01-01.
use Rattle.std.proofs.Common.{◌≡◌, ℕ, ◌+◌, ◌*◌, inl, inr, refl, sym}
use Rattle.std.proofs.Common.{ap, ◌∙◌, arith, ℤ, pos, ◌+ℤ◌, ◌-ℤ◌, ◌↔◌}
use Rattle.jiff.specs.Types.{Date, Span, Day}
use Rattle.jiff.specs.Words.{epoch_day, amount, signed, span_days, IsDateDifference}
use Rattle.jiff.specs.Words.{IsYmd, IsEpochDay}
use Rattle.jiff.proofs.Family.{add_months-zero, epoch_day_injective, epoch_day_same}
use Rattle.jiff.proofs.Family.{epoch_day_range}
use Rattle.jiff.proofs.SpanFacts.{signed_arith}
use Rattle.day_totals.specs.Day.{IsDayNumber, IsDateOf, IsDaysAfterFirst}
use Rattle.day_totals.specs.Day.{date_of}
use Rattle.day_totals.proofs.MonthsAndYears.{IsCivil, civil_date, day_at, is_first, date_of-at}

pub start : IsCivil 2000 1 1
start = is_first 2000 1 (omega arith) (omega arith) (omega arith)

first_of_all : (first : Date) → IsYmd (pos 2000) (pos 1) (pos 1) first →
    epoch_day first ≡ day_at 2000 1 1 start
first_of_all first h =
    let month : first.month ≡ 1 = omega (arith, signed_arith, h.1) in
    let day : first.day ≡ 1 = omega (arith, signed_arith, h.2) in
    epoch_day_same first (civil_date 2000 1 1 start) h.0 month day

-- it is enough to count from one date that is 2000-01-01
pub IsDaysAfterFirst-one : (days : ℤ) (first date : Date) → IsYmd (pos 2000) (pos 1) (pos 1) first →
    epoch_day date
    ≡ epoch_day first +ℤ days → IsDaysAfterFirst days date
IsDaysAfterFirst-one days first date ymd e =
    λ other h. let same : epoch_day first ≡ epoch_day other = first_of_all first ymd
    ∙ sym (first_of_all other h) in
    rw (← same) e

-- the date of a day, as jiff has it
unfoldable pub date_at : (number : ℕ) → IsDayNumber number → Date
date_at number h =
    civil_date (date_of number).year (date_of number).month (date_of number).day
    (date_of-at number h start).civil

pub date_at-day : (number : ℕ) (h : IsDayNumber number) →
    IsDaysAfterFirst (pos number) (date_at number h)
unfolding date_at
date_at-day number h = λ first ymd. rw (first_of_all first ymd) (date_of-at number h start).at

-- jiff has that date, and only that one, so many days after 2000-01-01
pub dates_of_days : (number : ℕ) (date : Date) → IsDayNumber number →
    IsDaysAfterFirst (pos number) date
    ↔ IsDateOf (date_of number) date
unfolding date_at
dates_of_days number date h =
    let there = date_at number h in
    let first = civil_date 2000 1 1 start in
    let ymd : IsYmd (pos 2000) (pos 1) (pos 1) first = (refl, refl, refl) in (
      λ after. epoch_day_injective date there
          (after first ymd ∙ sym (date_at-day number h first ymd)),
      λ parts other k. epoch_day_same date there parts.0 parts.1 parts.2
          ∙ date_at-day number h other k,
    )

-- the library has each of these days
pub IsEpochDay-number : (number : ℕ) (first : Date) → IsDayNumber number →
    IsYmd (pos 2000) (pos 1) (pos 1) first
    → IsEpochDay (epoch_day first +ℤ pos number)
IsEpochDay-number number first h ymd =
    rw (← date_at-day number h first ymd) (epoch_day_range (date_at number h))

-- a span in days from one date to another
pub amount-days : (first date : Date) (s : Span) → IsDateDifference Day first date s →
    epoch_day date
    ≡ epoch_day first +ℤ amount Day s
amount-days first date s h =
    let days : span_days s ≡ epoch_day date -ℤ epoch_day first =
    rw add_months-zero at h.shape.days_are in
    let only : s.weeks ≡ 0 =
    elim h.shape.weeks_only [ inl none ↦ none | inr week ↦ absurd (omega arith) ] in
    let whole : s.weeks * 7 + s.days ≡ s.days = omega arith in
    let same : span_days s ≡ amount Day s = ap (signed s.negative) whole in
    omega (arith, signed_arith)

-- a date lies in one distance from 2000-01-01
pub same_distance : (a b : ℤ) (date : Date) → IsDaysAfterFirst a date → IsDaysAfterFirst b date →
    a ≡ b
same_distance a b date h k =
    let first = civil_date 2000 1 1 start in
    let ymd : IsYmd (pos 2000) (pos 1) (pos 1) first = (refl, refl, refl) in
    let x = h first ymd in
    let y = k first ymd in
    omega (arith, signed_arith, x, y)
