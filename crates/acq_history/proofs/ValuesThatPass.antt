-- What the checks let pass.
use Rattle.std.proofs.Common.{◌≡◌, ◌≤◌, ◌+◌, ℕ, List, [], ◌∷◌, Option, Some, None, Bool, true}
use Rattle.std.proofs.Common.{false, cond, ◌⊎◌, inl, inr, refl, sym, ap, ◌∙◌, subst, arith}
use Rattle.std.specs.Prelude.{find, option_map, option_and_then, is_some, is_none, not, nat_le}
use Rattle.std.specs.Prelude.{nat_lt, ◌&&◌, ◌||◌}
use Rattle.std.specs.Prelude.{take, drop, length, replicate, ◌++◌, ◌-◌}
use Rattle.std.specs.List.{list_any}
use Rattle.std.specs.Str.{bytes_eq}
use Rattle.std.specs.Str.Parse.{digits_value}
use Rattle.std.proofs.lemmas.Bool.{and_parts, or_cases}
use Rattle.std.proofs.lemmas.Bool.Decides.{nat_tests}
use Rattle.day_totals.specs.Day.{date_of}
use Rattle.acq_core.specs.Decision.{month_number, is_expired, is_open_at, fits_acquirer}
use Rattle.acq_soundness.proofs.Keys.{bytes_eq_is, bytes_eq_from}
use Rattle.acq_soundness.proofs.Lookups.{or_split, not_false, not_true}
use Rattle.acq_history.specs.Entries.{Entry, is_completing, is_reversing, approval_in}
use Rattle.acq_history.specs.Entries.{request_of, remaining_by}
use Rattle.acq_history.specs.History.{Found, is_admitted, is_accepted, is_completed, is_reversed}
use Rattle.acq_history.specs.History.{is_declined, is_reversible, reference_of, answer_to, any_with}
use Rattle.acq_history.specs.CheckedValues as statement
use Rattle.acq_history.specs.CheckedValues.{IsInForce, IsStanding}
use Rattle.acq_history.proofs.RecordedInHistory.{key_in}
use Rattle.acq_history.proofs.AtMostOnce.{none_found}

at_most : (a b : ℕ) → nat_le a b ≡ true → a ≤ b
at_most a b h = grind (arith, nat_tests)

at_most_test : (a b : ℕ) → a ≤ b → nat_le a b ≡ true
at_most_test a b h = grind (arith, nat_tests)

not_below : (a b : ℕ) → nat_lt a b ≡ false → b ≤ a
not_below a b h = grind (arith, nat_tests)

not_below_test : (a b : ℕ) → b ≤ a → nat_lt a b ≡ false
not_below_test a b h = grind (arith, nat_tests)

pub amounts_are_within : statement.AmountsAreWithin
amounts_are_within n = (
  λ is. let parts = and_parts (nat_le 1 n) (nat_le n 9999999999) is in
      (at_most 1 n parts.0, at_most n 9999999999 parts.1),
  λ within i. at_most_test 1 n within.0 i && at_most_test n 9999999999 within.1 i,
)

-- ---- cards

in_force : (today : ℕ) (expiry : List ℕ) → is_expired today (Some expiry) ≡ false →
    IsInForce today expiry
in_force today expiry is =
    let year = 2000 + digits_value 10 (take 2 expiry) in
    let month = digits_value 10 (drop 2 expiry) in
    let date = date_of today in
    let parts = or_split (not (nat_le 1 month && nat_le month 12))
    (nat_lt (month_number year month) (month_number date.year date.month)) is in
    let real = and_parts (nat_le 1 month) (nat_le month 12)
    (not_false (nat_le 1 month && nat_le month 12) parts.0) in
    record {
      year = year;
      month = month;
      years = refl;
      months = refl;
      first = at_most 1 month real.0;
      last = at_most month 12 real.1;
      not_before =
          not_below (month_number year month) (month_number date.year date.month) parts.1;
    }

unexpired : (today : ℕ) (expiry : List ℕ) → IsInForce today expiry →
    is_expired today (Some expiry) ≡ false
unexpired today expiry is =
    let year = 2000 + digits_value 10 (take 2 expiry) in
    let month = digits_value 10 (drop 2 expiry) in
    let date = date_of today in
    let first = subst (λ m. 1 ≤ m) is.months is.first in
    let last = subst (λ m. m ≤ 12) is.months is.last in
    let not_before =
    subst (λ m. month_number date.year date.month ≤ month_number year m) is.months
    (subst (λ y. month_number date.year date.month ≤ month_number y is.month) is.years
    is.not_before) in
    λ i. not (at_most_test 1 month first i && at_most_test month 12 last i)
    || not_below_test (month_number year month) (month_number date.year date.month) not_before i

pub cards_are_in_force : statement.CardsAreInForce
cards_are_in_force today expiry = (
  λ is known there. in_force today known (ap (is_expired today) (sym there) ∙ is),
  back expiry,
)
  where
    back : (o : Option (List ℕ)) → ((known : List ℕ) → o ≡ Some known → IsInForce today known) →
        is_expired today o ≡ false
    back None are = refl
    back (Some known) are = unexpired today known (are known refl)

-- ---- holds

pub holds_are_open_to_their_end : statement.HoldsAreOpenToTheirEnd
holds_are_open_to_their_end moment hold_end = (
  to hold_end,
  λ end. ap (is_open_at moment) end.1 ∙ at_most_test moment end.0 end.2,
)
  where
    to : (o : Option ℕ) → is_open_at moment o ≡ true →
        (last : ℕ) × (o ≡ Some last) × (moment ≤ last)
    to None is = absurd (cc)
    to (Some last) is = (last, refl, at_most moment last is)

-- ---- acquirers

or_right : (a b : Bool) → b ≡ true → (a || b) ≡ true
or_right true b is = refl
or_right false b is = is

abbrev IsNamed : List ℕ → List ℕ → Type 0
IsNamed text own =
    (text ≡ replicate 11 48) ⊎ (text ≡ replicate (11 - length own) 48 ++ own)

fits : (text own : List ℕ) → IsNamed text own → fits_acquirer text (Some own) ≡ true
fits text own (inl zeros) =
    ap (λ b. b || bytes_eq text (replicate (11 - length own) 48 ++ own))
    (bytes_eq_from text (replicate 11 48) zeros)
fits text own (inr itself) =
    or_right (bytes_eq text (replicate 11 48))
    (bytes_eq text (replicate (11 - length own) 48 ++ own))
    (bytes_eq_from text (replicate (11 - length own) 48 ++ own) itself)

named : (text own : List ℕ) → fits_acquirer text (Some own) ≡ true → IsNamed text own
named text own is =
    step (or_cases (bytes_eq text (replicate 11 48))
    (bytes_eq text (replicate (11 - length own) 48 ++ own)) is)
  where
    step : (bytes_eq text (replicate 11 48) ≡ true)
        ⊎ (bytes_eq text (replicate (11 - length own) 48 ++ own) ≡ true) → IsNamed text own
    step (inl zeros) = inl (bytes_eq_is text (replicate 11 48) zeros)
    step (inr itself) = inr (bytes_eq_is text (replicate (11 - length own) 48 ++ own) itself)

pub acquirers_are_named : statement.AcquirersAreNamed
acquirers_are_named text acquirer = (
  λ is own there. named text own (ap (fits_acquirer text) (sym there) ∙ is),
  back acquirer,
)
  where
    back : (o : Option (List ℕ)) → ((own : List ℕ) → o ≡ Some own → IsNamed text own) →
        fits_acquirer text o ≡ true
    back None are = refl
    back (Some own) are = fits text own (are own refl)

-- ---- originals

there_is : (o : Option ℕ) → is_none o ≡ false → is_some o ≡ true
there_is None e = absurd (cc)
there_is (Some n) e = refl

stands : (f : Found) → is_reversible f ≡ true → IsStanding f
stands f can =
    let last = and_parts ((is_admitted f || is_accepted f) && not (is_completed f)
    && not (is_reversed f)) (not (is_declined f)) can in
    let both = and_parts ((is_admitted f || is_accepted f) && not (is_completed f))
    (not (is_reversed f)) last.0 in
    let first = and_parts (is_admitted f || is_accepted f) (not (is_completed f)) both.0 in
    record {
      accepted = first.0;
      uncompleted = λ n is.
          sym (ap (λ o. any_with is_completing o f.later) is) ∙ not_true (is_completed f) first.1;
      unreversed =
          none_found (is_reversing (key_in f)) f.later (not_true (is_reversed f) both.1);
      undeclined = λ e is. approved e is (not_true (is_declined f) last.1);
    }
  where
    approved : (e : Entry) → answer_to f ≡ Some e → is_declined f ≡ false →
        is_some (approval_in e.arrival) ≡ true
    approved e is standing =
        there_is (approval_in e.arrival)
        (sym ((λ i. is_some (is i) && is_none (option_and_then (λ x. approval_in x.arrival) (is i))))
        ∙ standing)

some_not_none : (o : Option ℕ) → is_some o ≡ true → is_none o ≡ false
some_not_none None e = absurd (cc)
some_not_none (Some n) e = refl

none_to_find : (p : Entry → Bool) (es : List Entry) → list_any p es ≡ false → find p es ≡ None
none_to_find p [] none = refl
none_to_find p (e ∷ es) none = step (p e) (λ later. none_to_find p es later) none
  where
    step : (b : Bool) → (list_any p es ≡ false → find p es ≡ None) →
        (b || list_any p es) ≡ false → cond b (Some e) (find p es) ≡ None
    step true later none = absurd (cc)
    step false later none = later none

can_be_reversed : (f : Found) → IsStanding f → is_reversible f ≡ true
can_be_reversed f is =
    λ i. is.accepted i && not (completed (reference_of f) refl i) && not (reversed i)
    && not (declined (answer_to f) refl i)
  where
    completed : (o : Option ℕ) → reference_of f ≡ o → any_with is_completing o f.later ≡ false
    completed None none = refl
    completed (Some n) numbered = is.uncompleted n numbered

    reversed : is_reversed f ≡ false
    reversed =
        ap (λ o. is_some (option_map (λ e. remaining_by (request_of e.arrival)) o))
        (none_to_find (is_reversing (key_in f)) f.later is.unreversed)

    declined : (o : Option Entry) → answer_to f ≡ o →
        (is_some o && is_none (option_and_then (λ x. approval_in x.arrival) o)) ≡ false
    declined None none = refl
    declined (Some e) answered = some_not_none (approval_in e.arrival) (is.undeclined e answered)

pub originals_stand : statement.OriginalsStand
originals_stand f = (stands f, can_be_reversed f)
