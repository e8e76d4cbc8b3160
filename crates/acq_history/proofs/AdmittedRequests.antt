-- What was admitted passed its checks when it came.
use Rattle.std.proofs.Common.{◌≡◌, ◌≤◌, ℕ, List, [], ◌∷◌, Option, Some, None, Bool, true, false}
use Rattle.std.proofs.Common.{cond, arith, refl, ap, ◌∙◌, subst}
use Rattle.std.specs.Prelude.{option_map, option_and_then, is_none, ◌&&◌, ◌||◌, ◌==◌}
use Rattle.std.specs.Prelude.{is_some, nat_lt, unwrap_or}
use Rattle.std.proofs.lemmas.Bool.Decides.{nat_tests}
use Rattle.std.specs.Option.{option_or}
use Rattle.std.proofs.lemmas.Bool.{and_parts}
use Rattle.card_no.specs.declared.range.Range.{Range}
use Rattle.card_no.specs.CardNumbers.{prefix_of}
use Rattle.card_no.specs.Ranges.{range_of_prefix}
use Rattle.acq_message.specs.declared.service.Service.TheVariants.{Authorization}
use Rattle.acq_message.specs.declared.request_message.RequestMessage.{RequestMessage}
use Rattle.acq_message.specs.Cards.{card_of}
use Rattle.acq_message.specs.Elements.{or_empty, key_of, amount_in}
use Rattle.acq_core.specs.declared.event.Event.{Event}
use Rattle.acq_core.specs.declared.arrival.Arrival.{Arrival}
use Rattle.acq_core.specs.declared.arrival.Arrival.TheVariants.{Requested}
use Rattle.acq_core.specs.Arrivals.{arrival_of}
use Rattle.acq_core.specs.Changes.{end_of_hold}
use Rattle.acq_core.specs.Tables.{Opening}
use Rattle.acq_soundness.specs.Requests.{recordable, is_admissible}
use Rattle.acq_soundness.proofs.Keys.{eqb_is}
use Rattle.acq_soundness.proofs.Lookups.{none_some, some_is}
use Rattle.acq_soundness.proofs.RecordableRequests.{recordable_is}
use Rattle.acq_history.specs.Entries.{Entry, request_of, is_asked}
use Rattle.acq_history.specs.History.{Found, newest, aged, recorded, referred, referring, admits}
use Rattle.acq_history.specs.History.{next_reference, ranges_after, is_admitted}
use Rattle.acq_history.specs.History.{hold_days_of, hold_end_by, approval_of, is_completed}
use Rattle.acq_history.specs.History.{is_undone, reversal_of, lowered_to, amount_of}
use Rattle.acq_history.specs.PartyHistory.{own, entry_for, history_of, history_after}
use Rattle.acq_history.specs.ExactAcceptance as statement
use Rattle.acq_history.specs.ExactAcceptance.{WasAdmitted}
use Rattle.acq_history.specs.OpenHolds as holds
use Rattle.acq_history.specs.OpenHolds.{IsOpenUntil}
use Rattle.acq_history.proofs.RecordedInHistory.{referred_is, reference_if}
use Rattle.acq_history.proofs.ExactlyAccepted.{asks_by}

-- by the entries before it, and in the ranges that stood then
record CameIn (opening : Opening) (reference : ℕ) (f : Found) : Type 0 where
  was : WasAdmitted opening reference f
  ranges : f.entry.ranges ≡ ranges_after f.before

-- one entry later it is so still
came_later : (opening : Opening) (n : ℕ) (e : Entry) (f : Found) → CameIn opening n f →
    CameIn opening n (aged e f)
came_later opening n e f c =
    record {
      was = record {
        merchant = c.was.merchant;
        range = c.was.range;
        may = c.was.may;
        numbered = c.was.numbered;
      };
      ranges = c.ranges;
    }

-- the newest entry's request
came_now : (opening : Opening) (h : List Entry) (a : Arrival) (n : ℕ) (f : Found) →
    referring n (entry_for opening h a) h (request_of a) ≡ Some f → CameIn opening n f
came_now opening h (Requested r) n f is = step (recordable r r.service) refl is
  where
    e : Entry
    e = entry_for opening h (Requested r)

    admitted : admits (Some r) (entry_for opening h (Requested r)) h ≡ true →
        next_reference h ≡ n → CameIn opening n (newest r (entry_for opening h (Requested r)) h)
    admitted adm numbered =
        let last = and_parts (is_admissible r.service
        && is_asked (entry_for opening h (Requested r)).outcome)
        (is_none (recorded (key_of r.service r.message) h)) adm in
        let asked = (and_parts (is_admissible r.service)
        (is_asked (entry_for opening h (Requested r)).outcome) last.0).1 in
        let may = asks_by opening h r asked in
        record {
          was = record {
            merchant = may.0;
            range = may.1;
            may = may.2;
            numbered = numbered;
          };
          ranges = refl;
        }

    newly : (b : Bool) →
        (admits (Some r) (entry_for opening h (Requested r)) h && (next_reference h == n)) ≡ b →
        cond b (Some (newest r (entry_for opening h (Requested r)) h)) None ≡ Some f →
        CameIn opening n f
    newly true on is =
        let parts = and_parts (admits (Some r) (entry_for opening h (Requested r)) h)
        (next_reference h == n) on in
        subst (CameIn opening n)
        (some_is (newest r (entry_for opening h (Requested r)) h) f is)
        (admitted parts.0 (eqb_is (next_reference h) n parts.1))
    newly false off is = none_some f is

    step : (rq : Option RequestMessage) → recordable r r.service ≡ rq →
        referring n (entry_for opening h (Requested r)) h rq ≡ Some f → CameIn opening n f
    step None came is = none_some f is
    step (Some q) came is =
        newly (admits (Some r) (entry_for opening h (Requested r)) h && (next_reference h == n)) refl
        (ap (λ x. referring n (entry_for opening h (Requested r)) h (Some x))
        (recordable_is r.service r q came)
        ∙ is)
came_now opening h other n f is = none_some f is

-- whatever was admitted
abbrev HaveCome : Opening → List Entry → Type 0
HaveCome opening h = (n : ℕ) (f : Found) → referred n h ≡ Some f → CameIn opening n f

have_come-step : (opening : Opening) (h : List Entry) (a : Arrival) → HaveCome opening h →
    HaveCome opening (entry_for opening h a ∷ h)
have_come-step opening h a before n f found = step (referred n h) refl found
  where
    step : (o : Option Found) → referred n h ≡ o →
        option_or (option_map (aged (entry_for opening h a)) o)
        (referring n (entry_for opening h a) h (request_of a)) ≡ Some f →
        CameIn opening n f
    step None none found = came_now opening h a n f found
    step (Some g) there found =
        subst (CameIn opening n) (some_is (aged (entry_for opening h a) g) f found)
        (came_later opening n (entry_for opening h a) g (before n g there))

have_come : (opening : Opening) (h : List Entry) → HaveCome opening h → (es : List Event) →
    HaveCome opening (history_after opening h es)
have_come opening h before [] = before
have_come opening h before (e ∷ es) =
    have_come opening (entry_for opening h (arrival_of e) ∷ h)
    (have_come-step opening h (arrival_of e) before) es

came_in : (m : List ℕ) (opening : Opening) (es : List Event) →
    HaveCome opening (history_of opening (Some m) es)
came_in m opening es = have_come opening [] (λ n f none. none_some f none) (own (Some m) es)

pub admitted_may_be : (m : List ℕ) → statement.AdmittedMayBe m
admitted_may_be m opening es n f found = (came_in m opening es n f found).was

-- ---- open holds

-- until when a hold is open, by what is known of it
open_until : (f : Found) (approved : ℕ) (range : Range) → f.request.service ≡ Authorization →
    approval_of f ≡ Some approved → is_completed f ≡ false → is_undone f ≡ false →
    hold_days_of f ≡ Some range.hold_days →
    hold_end_by f.request.service f ≡ Some (end_of_hold approved range.hold_days)
open_until f approved range is at uncompleted standing days =
    ap (λ s. hold_end_by s f) is
    ∙ (λ i. cond (uncompleted i || standing i) None
    (option_and_then (λ t. option_map (end_of_hold t) (days i)) (at i)))

pub approved_holds_are_open : (m : List ℕ) → holds.ApprovedHoldsAreOpen m
approved_holds_are_open m opening es n approved f found is at uncompleted standing =
    let c = came_in m opening es n f found in
    let numbered = (referred_is n (history_of opening (Some m) es) f found).0 in
    let adm = (reference_if (is_admitted f) (next_reference f.before) n numbered).0 in
    let prefix = prefix_of (or_empty (card_of f.request.message)) in
    let days : hold_days_of f ≡ Some c.was.range.hold_days =
    (λ i. cond (adm i) (option_map (λ range. range.hold_days)
    (range_of_prefix (c.ranges i) prefix)) None)
    ∙ ap (option_map (λ range. range.hold_days)) c.was.may.in_range in
    record {
      range = c.was.range;
      in_range = c.was.may.in_range;
      until = open_until f approved c.was.range is at uncompleted standing days;
    }

-- ---- what is left of a hold

lowers : (remains : ℕ) → 1 ≤ remains → nat_lt 0 remains ≡ true
lowers remains some = grind (arith, nat_tests)

-- where something is left it isn't undone, and is what is known of it
left_open : (f : Found) → f.request.service ≡ Authorization → (o : Option ℕ) →
    reversal_of f ≡ o → 1 ≤ unwrap_or o (amount_in f.request.message) →
    (is_undone f ≡ false) × (amount_of f ≡ unwrap_or o (amount_in f.request.message))
left_open f is None unreversed some = (
  λ i. is_some (unreversed i) && is_none (lowered_to f.request.service (unreversed i)),
  λ i. unwrap_or (lowered_to f.request.service (unreversed i)) (amount_in f.request.message),
)
left_open f is (Some remains) reversed some =
    let lowered : lowered_to f.request.service (reversal_of f) ≡ Some remains =
    (λ i. lowered_to (is i) (reversed i))
    ∙ ap (λ b. cond b (Some remains) None) (lowers remains some) in (
      λ i. is_some (reversed i) && is_none (lowered i),
      ap (λ o. unwrap_or o (amount_in f.request.message)) lowered,
    )

pub lowered_holds_stay_open : (m : List ℕ) → holds.LoweredHoldsStayOpen m
lowered_holds_stay_open m opening es n approved f found is at uncompleted some =
    let left = left_open f is (reversal_of f) refl some in (
      approved_holds_are_open m opening es n approved f found is at uncompleted left.0,
      left.1,
    )
