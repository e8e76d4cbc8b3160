-- A day's text reads as the day's date, and as no other.
use Rattle.std.proofs.Common.{◌≡◌, ℕ, Ok, Err, List, refl, sym}
use Rattle.std.proofs.Common.{ap, ◌∙◌, arith, pos}
use Rattle.jiff.specs.Types.{Date}
use Rattle.jiff.specs.Words.{Error, parse_date, date_parts}
use Rattle.jiff.proofs.Family.{parse_date-date_text}
use Rattle.jiff.proofs.SpanFacts.{signed_arith}
use Rattle.day_totals.specs.Day.{IsDayNumber, IsDateOf}
use Rattle.day_totals.specs.Day.{date_of, date_text_of}
use Rattle.day_totals.proofs.DatesOfDays.{date_at, date_at-day, dates_of_days, same_distance}

-- a day's text reads as the day's date
pub parse_date-date_text_of : (number : ℕ) (h : IsDayNumber number)
    → (parse_date (date_text_of number) ≡ Ok (date_parts (date_at number h)))
    × IsDateOf (date_of number) (date_at number h)
unfolding date_at
parse_date-date_text_of number h = (parse_date-date_text (date_at number h), (refl, refl, refl))

-- two days with one date have one text
pub date_text_of-same : (m n : ℕ) (date : Date) → IsDateOf (date_of m) date →
    IsDateOf (date_of n) date → date_text_of m
    ≡ date_text_of n
date_text_of-same m n date h k =
    let year : (date_of m).year ≡ (date_of n).year = omega (arith, signed_arith, h.0, k.0) in
    let month : (date_of m).month ≡ (date_of n).month = sym h.1 ∙ k.1 in
    let day : (date_of m).day ≡ (date_of n).day = sym h.2 ∙ k.2 in
    rw (year, month, day)

-- what a day's text reads as
pub parsed : (text : List ℕ) (number : ℕ) → IsDayNumber number → text ≡ date_text_of number →
    (date : Date)
    → Ok (date_parts date) ≡ parse_date text → IsDateOf (date_of number) date
parsed text number h e date read =
    let back = parse_date-date_text_of number h in
    let there = date_at number h in
    let both : Ok (date_parts date) ≡ Ok (date_parts there) = read ∙ ap parse_date e ∙ back.0 in
    let same : date_parts date ≡ date_parts there = cc in
    let parts = back.1 in (
      ap (λ p. p.year) same ∙ parts.0,
      ap (λ p. p.month) same ∙ parts.1,
      ap (λ p. p.day) same
          ∙ parts.2,
    )

pub not_refused : (text : List ℕ) (number : ℕ) → IsDayNumber number → text ≡ date_text_of number →
    (error : Error)
    → Err error ≡ parse_date text → ⊥
not_refused text number h e error refused =
    let back = parse_date-date_text_of number h in
    let both : Err error ≡ Ok (date_parts (date_at number h)) = refused ∙ ap parse_date e ∙ back.0
    in
    cc

-- no two days have one text
pub date_text_of-injective : (number other : ℕ) → IsDayNumber number → IsDayNumber other →
    date_text_of number
    ≡ date_text_of other → number ≡ other
date_text_of-injective number other h k e =
    let date = date_at number h in
    let read : Ok (date_parts date) ≡ parse_date (date_text_of number) =
    sym (parse_date-date_text_of number h).0 in
    let parts = parsed (date_text_of number) other k e date read in
    let same = same_distance (pos number) (pos other) date (date_at-day number h)
    ((dates_of_days other date k).1 parts) in
    omega (arith, signed_arith, same)
