-- A day that is over, and none of whose requests is pending, stays as it is.
use Rattle.std.proofs.Common.{◌≡◌, ℕ, ◌+◌, ◌<◌, List, [], ◌∷◌, Bool, true, false, cond, refl}
use Rattle.std.proofs.Common.{ap, arith}
use Rattle.std.specs.Prelude.{◌&&◌, ◌||◌, ◌==◌, nat_lt, Some, None}
use Rattle.std.specs.List.{list_any}
use Rattle.std.proofs.lemmas.Bool.Decides.{nat_tests}
use Rattle.acq_core.specs.declared.event.Event.{Event}
use Rattle.acq_core.specs.Tables.{Tables, count, is_pending, tables_after}
use Rattle.acq_history.specs.Finality.{has_pending}
use Rattle.acq_history.proofs.FinalDays.{closed_day_stays, postings_of_closed_day}
use Rattle.acq_book.specs.Lookups.{is_posting_before, pending_at, postings_at}
use Rattle.acq_book.specs.Order.{in_order}
use Rattle.acq_reports.specs.declared.report_fault.ReportFault.TheVariants.{DayNotOver}
use Rattle.acq_reports.specs.declared.report_fault.ReportFault.TheVariants.{StillPending}
use Rattle.acq_reports.specs.Refusals.{day_refusal, pending_refusal}

-- ---- when a day is given

-- none is found exactly where none is counted
none_passes : {X : Type 0} (p : X → Bool) (xs : List X) → count p xs ≡ 0 → list_any p xs ≡ false
none_passes p [] e = refl
none_passes {X} p (x ∷ xs) e = step (p x) (none_passes p xs) e
  where
    step : (b : Bool) → (count p xs ≡ 0 → list_any p xs ≡ false) →
        cond b (1 + count p xs) (count p xs) ≡ 0 →
        (b || list_any p xs) ≡ false
    step true rest e = absurd (omega arith)
    step false rest e = rest e

none_counted : {X : Type 0} (p : X → Bool) (xs : List X) → list_any p xs ≡ false → count p xs ≡ 0
none_counted p [] e = refl
none_counted {X} p (x ∷ xs) e = step (p x) (none_counted p xs) e
  where
    step : (b : Bool) → (list_any p xs ≡ false → count p xs ≡ 0) → (b || list_any p xs) ≡ false →
        cond b (1 + count p xs) (count p xs) ≡ 0
    step true rest e = absurd (cc)
    step false rest e = rest e

-- a day that is given is over
pub record IsGiven (t : Tables) (day : ℕ) : Type 0 where
  pub over : day < t.day
  pub none : has_pending day t.requests ≡ false

given_parts : (over : Bool) (n : ℕ) → cond over (pending_refusal n) (Some DayNotOver) ≡ None →
    (over ≡ true) × (n ≡ 0)
given_parts false n e = absurd (cc)
given_parts true n e = (refl, none_left (n == 0) refl e)
  where
    none_left : (b : Bool) → (n == 0) ≡ b → cond b None (Some (StillPending n)) ≡ None → n ≡ 0
    none_left true is e = grind (arith, nat_tests)
    none_left false is e = absurd (cc)

pub is_given : (t : Tables) (day : ℕ) → day_refusal t day ≡ None → IsGiven t day
is_given t day e =
    let parts = given_parts (nat_lt day t.day) (pending_at t day) e in
    record {
      over = let before = parts.0 in grind (arith, nat_tests);
      none = none_passes (λ row. is_pending row.status && (row.day == day)) t.requests parts.1;
    }

not_refused : (t : Tables) (day : ℕ) → day < t.day → has_pending day t.requests ≡ false →
    day_refusal t day ≡ None
not_refused t day over none =
    let before : nat_lt day t.day ≡ true = grind (arith, nat_tests) in
    let counted = none_counted (λ row. is_pending row.status && (row.day == day)) t.requests none in
    λ i. cond (before i) (pending_refusal (counted i)) (Some DayNotOver)

-- ---- after a run

-- it is given again,
pub given_again : (t : Tables) (further : List Event) (day : ℕ) → day_refusal t day ≡ None →
    day_refusal (tables_after t further) day ≡ None
given_again t further day refused =
    let given = is_given t day refused in
    let closed = closed_day_stays t day further given.over given.none in
    not_refused (tables_after t further) day closed.0 closed.1

-- and its postings are those that it had
pub same_postings : (t : Tables) (further : List Event) (day : ℕ) → day_refusal t day ≡ None →
    postings_at (tables_after t further) day ≡ postings_at t day
same_postings t further day refused =
    let given = is_given t day refused in
    ap (in_order is_posting_before)
    (postings_of_closed_day t day [] further given.over given.none)
