-- What a reconciliation claimed never changes.
use Rattle.std.proofs.Common.{◌≡◌, ◌∙◌, ◌++◌, ◌∷◌, ◌≤◌, ℕ, zero, suc, Bool, true, false, List, []}
use Rattle.std.proofs.Common.{Option, None, inl, inr, cond, refl, sym, ap, ap₂, subst, arith}
use Rattle.std.proofs.Common.{length, take, true≢false}
use Rattle.std.specs.List.{AllByRecursion, cons_option, filter_map}
use Rattle.acq_message.specs.declared.request_key.RequestKey.{RequestKey}
use Rattle.acq_message.specs.declared.service.Service.{Service}
use Rattle.acq_message.specs.declared.service.Service.TheVariants.{Reconciliation}
use Rattle.acq_message.specs.declared.verdict.Verdict.{Verdict}
use Rattle.acq_message.specs.declared.verdict.Verdict.TheVariants.{Approved, Declined, NoAnswer}
use Rattle.acq_message.specs.Elements.{remaining_in, same_key}
use Rattle.acq_message.specs.Reply.{answered_reply}
use Rattle.acq_core.specs.declared.arrival.Arrival.{Arrival}
use Rattle.acq_core.specs.declared.event.Event.{Event}
use Rattle.acq_core.specs.declared.remains.Remains.{Remains}
use Rattle.acq_core.specs.declared.reply_state.ReplyState.{ReplyState}
use Rattle.acq_core.specs.declared.reply_state.ReplyState.TheVariants.{Kept, Awaited, Late}
use Rattle.acq_core.specs.declared.request.Request.{Request}
use Rattle.acq_core.specs.declared.status.Status.{Status}
use Rattle.acq_core.specs.declared.status.Status.TheVariants.{Lowered}
use Rattle.acq_core.specs.declared.status.Status.TheVariants.{Reconciled, Refused}
use Rattle.acq_core.specs.Arrivals.{arrival_of}
use Rattle.acq_core.specs.Changes.{admitted_row, answered_hold_end, answered_status, change_of}
use Rattle.acq_core.specs.Changes.{completion_row, is_lowered, reconciliation_row, refused_row}
use Rattle.acq_core.specs.Changes.{remains_of, remains_of_hold, reversal_row, reversed_status}
use Rattle.acq_core.specs.Decision.{is_open_at}
use Rattle.acq_core.specs.Known.{Prior}
use Rattle.acq_core.specs.Pasts.{HasPast}
use Rattle.acq_core.specs.Tables.{Tables, after_any, answered_row, followed_row, hold_end_by}
use Rattle.acq_core.specs.Tables.{is_reversible, known_in, new_tables, prior_of, step_tables}
use Rattle.acq_core.specs.Tables.{tables_after, with_changed}
use Rattle.acq_soundness.specs.Requests.{is_admissible, is_reversal}
use Rattle.acq_soundness.proofs.Keys.{same_key_is}
use Rattle.acq_soundness.proofs.Members.{In}
use Rattle.acq_soundness.proofs.Runs.{kept}
use Rattle.acq_soundness.proofs.StepCases.{by_step, next_reference}
use Rattle.acq_statement.specs.declared.claim.Claim.{Claim}
use Rattle.acq_statement.specs.declared.days.Days.{Days}
use Rattle.acq_statement.specs.Claims.{claim_by_status, claim_in}
use Rattle.acq_statement.specs.Gathered.{IsSettled, is_final, is_reconciled, is_reconciliation}

-- ---- services and statuses

admissible_none : (s : Service) → is_admissible s ≡ true → is_reconciliation s ≡ false
admissible_none Reconciliation h = absurd (true≢false (sym h))
admissible_none s h = refl

reversal_none : (s : Service) → is_reversal s ≡ true → is_reconciliation s ≡ false
reversal_none Reconciliation h = absurd (true≢false (sym h))
reversal_none s h = refl

hold_none : (moment : ℕ) (row : Request) (s : Service) →
    is_open_at moment (hold_end_by s row) ≡ true → is_reconciliation s ≡ false
hold_none moment row Reconciliation h = absurd (true≢false (sym h))
hold_none moment row s h = refl

reversible_open : (s : Status) → is_reversible s ≡ true → is_final s ≡ false
reversible_open Reconciled h = absurd (true≢false (sym h))
reversible_open Refused h = absurd (true≢false (sym h))
reversible_open s h = refl

reversed_open : (s : ReplyState) → is_reconciled (reversed_status s) ≡ false
reversed_open (Kept reply) = refl
reversed_open (Awaited draft) = refl
reversed_open Late = refl

remains_open : (p : Prior) (n : ℕ) → is_reconciled (remains_of p n).status ≡ false
remains_open p n =
    elim (is_lowered p.key.service n)
    as (λ b. is_reconciled (cond {A = Remains} b (record { status = Lowered; amount = n })
    (record { status = reversed_status p.reply_state; amount = p.amount })).status ≡ false) [
      | true ↦ refl
      | false ↦ reversed_open p.reply_state
    ]

answered_open : (v : Verdict) → is_reconciled (answered_status v) ≡ false
answered_open (Approved id) = refl
answered_open (Declined text) = refl
answered_open NoAnswer = refl

-- ---- rows

none_by : (b : Bool) (A : Type 0) → b ≡ false → b ≡ true → A
none_by b A fails holds = absurd (true≢false (sym holds ∙ fails))

-- one that isn't a reconciliation, and wasn't made as one
settled_other : (row : Request) → is_reconciliation row.key.service ≡ false →
    is_reconciled row.status ≡ false → IsSettled row
settled_other row other unmade = (
  λ made. none_by (is_reconciled row.status) (is_reconciliation row.key.service ≡ true) unmade
      made,
  λ is. none_by (is_reconciliation row.key.service) (is_final row.status ≡ true) other is,
)

other_by_status : (row : Request) → IsSettled row → is_final row.status ≡ false →
    is_reconciliation row.key.service ≡ false
other_by_status row settled unmade = go (is_reconciliation row.key.service) refl
  where
    go : (b : Bool) → is_reconciliation row.key.service ≡ b →
        is_reconciliation row.key.service ≡ false
    go true is = absurd (true≢false (sym (settled.1 is) ∙ unmade))
    go false is = is

open_by_service : (row : Request) → IsSettled row → is_reconciliation row.key.service ≡ false →
    is_reconciled row.status ≡ false
open_by_service row settled other = go (is_reconciled row.status) refl
  where
    go : (b : Bool) → is_reconciled row.status ≡ b → is_reconciled row.status ≡ false
    go true is = absurd (true≢false (sym (settled.0 is) ∙ other))
    go false is = is

settled_in : (row : Request) (rows : List Request) → In row rows → AllByRecursion IsSettled rows →
    IsSettled row
settled_in row (x ∷ rows) (inl is) all = subst IsSettled is all.0
settled_in row (x ∷ rows) (inr member) all = settled_in row rows member all.1
settled_in row [] member all = absurd member

settled_push : (rows : List Request) (row : Request) → AllByRecursion IsSettled rows →
    IsSettled row → AllByRecursion IsSettled (rows ++ row ∷ [])
settled_push [] row all one = (one, tt)
settled_push (x ∷ rows) row all one = (all.0, settled_push rows row all.1 one)

-- ---- what they claim

abbrev Claiming : Type 0
Claiming = Request → Option Claim

open_claims : (s : Status) (claim : Option Claim) → is_reconciled s ≡ false →
    claim_by_status s claim ≡ None
open_claims Reconciled claim unmade = absurd (true≢false unmade)
open_claims s claim unmade = refl

-- requests that begin with others, which claim what those do
abbrev GoesOnFrom : Claiming → List Request → List Request → Type 0
GoesOnFrom claim [] ys = Unit
GoesOnFrom claim (x ∷ xs) [] = ⊥
GoesOnFrom claim (x ∷ xs) (y ∷ ys) = (claim x ≡ claim y) × GoesOnFrom claim xs ys

from_itself : (claim : Claiming) (xs : List Request) → GoesOnFrom claim xs xs
from_itself claim [] = tt
from_itself claim (x ∷ xs) = (refl, from_itself claim xs)

from_then : (claim : Claiming) (xs ys zs : List Request) → GoesOnFrom claim xs ys →
    GoesOnFrom claim ys zs → GoesOnFrom claim xs zs
from_then claim [] ys zs first second = tt
from_then claim (x ∷ xs) (y ∷ ys) (z ∷ zs) first second =
    (first.0 ∙ second.0, from_then claim xs ys zs first.1 second.1)
from_then claim (x ∷ xs) [] zs first second = absurd first
from_then claim (x ∷ xs) (y ∷ ys) [] first second = absurd second

from_more : (claim : Claiming) (xs ys zs : List Request) → GoesOnFrom claim xs ys →
    GoesOnFrom claim xs (ys ++ zs)
from_more claim [] ys zs goes = tt
from_more claim (x ∷ xs) (y ∷ ys) zs goes = (goes.0, from_more claim xs ys zs goes.1)
from_more claim (x ∷ xs) [] zs goes = absurd goes

no_fewer : (claim : Claiming) (xs ys : List Request) → GoesOnFrom claim xs ys →
    length xs ≤ length ys
no_fewer claim [] ys goes = omega arith
no_fewer claim (x ∷ xs) (y ∷ ys) goes = omega (arith, no_fewer claim xs ys goes.1)
no_fewer claim (x ∷ xs) [] goes = absurd goes

first_claims : (claim : Claiming) (n : ℕ) (xs ys : List Request) → n ≤ length xs →
    GoesOnFrom claim xs ys → filter_map claim (take n xs) ≡ filter_map claim (take n ys)
first_claims claim zero xs ys within goes = refl
first_claims claim (suc n) [] ys within goes = absurd (omega (arith, within))
first_claims claim (suc n) (x ∷ xs) [] within goes = absurd goes
first_claims claim (suc n) (x ∷ xs) (y ∷ ys) within goes =
    ap₂ (λ o l. cons_option o l) goes.0
    (first_claims claim n xs ys (omega (arith, within)) goes.1)

-- ---- a step

-- they are settled, and begin with those before, which claim what they did
record Keeps (before after : List Request) : Type 0 where
  settled : AllByRecursion IsSettled after
  claims : (asked : List (List ℕ)) (days : Days) → GoesOnFrom (claim_in asked days) before after

keeps_itself : (rows : List Request) → AllByRecursion IsSettled rows → Keeps rows rows
keeps_itself rows all = record {
  settled = all;
  claims = λ asked days. from_itself (claim_in asked days) rows;
}

keeps_push : (xs ys : List Request) (row : Request) → Keeps xs ys → IsSettled row →
    Keeps xs (ys ++ row ∷ [])
keeps_push xs ys row keeps one = record {
  settled = settled_push ys row keeps.settled one;
  claims = λ asked days. from_more (claim_in asked days) xs ys (row ∷ []) (keeps.claims asked days);
}

-- the row of a key changed, which is no reconciliation's
module _ (key : RequestKey) (other : is_reconciliation key.service ≡ false)
    (changed : Request → Request) (keyed : (x : Request) → (changed x).key ≡ x.key)
    (unmade : (x : Request) → is_reconciled (changed x).status ≡ false) where
  other_row : (x : Request) → same_key x.key key ≡ true →
      is_reconciliation x.key.service ≡ false
  other_row x same =
      ap (λ (k : RequestKey). is_reconciliation k.service) (same_key_is x.key key same) ∙ other

  settled_one : (x : Request) → IsSettled x → (b : Bool) → same_key x.key key ≡ b →
      IsSettled (cond b (changed x) x)
  settled_one x settled true same =
      settled_other (changed x)
      (ap (λ (k : RequestKey). is_reconciliation k.service) (keyed x) ∙ other_row x same) (unmade x)
  settled_one x settled false same = settled

  settled_changed : (xs : List Request) → AllByRecursion IsSettled xs →
      AllByRecursion IsSettled (with_changed key changed xs)
  settled_changed [] all = tt
  settled_changed (x ∷ xs) all =
      (settled_one x all.0 (same_key x.key key) refl, settled_changed xs all.1)

  module _ (asked : List (List ℕ)) (days : Days) where
    claim_one : (x : Request) → IsSettled x → (b : Bool) → same_key x.key key ≡ b →
        claim_in asked days x ≡ claim_in asked days (cond b (changed x) x)
    claim_one x settled true same =
        open_claims x.status _ (open_by_service x settled (other_row x same))
        ∙ sym (open_claims (changed x).status _ (unmade x))
    claim_one x settled false same = refl

    claims_changed : (xs : List Request) → AllByRecursion IsSettled xs →
        GoesOnFrom (claim_in asked days) xs (with_changed key changed xs)
    claims_changed [] all = tt
    claims_changed (x ∷ xs) all =
        (claim_one x all.0 (same_key x.key key) refl, claims_changed xs all.1)

  keeps_changed : (xs : List Request) → AllByRecursion IsSettled xs →
      Keeps xs (with_changed key changed xs)
  keeps_changed xs all = record {
    settled = settled_changed xs all;
    claims = λ asked days. claims_changed asked days xs all;
  }

after_step : (t : Tables) (a : Arrival) → AllByRecursion IsSettled t.requests →
    Keeps t.requests (step_tables t a).requests
after_step t a all =
    let rows = t.requests in
    let today = (known_in t a).today in
    let still = keeps_itself rows all in
    by_step t a (λ d. Keeps rows (after_any t (change_of (known_in t a) d)).requests)
    (record {
      reported = λ o is. still;
      malformed = λ r came. still;
      replied = λ r came given is. still;
      repeated = λ row member. still;
      refused = λ r merchant g given is.
          keeps_push rows rows (refused_row today r given) still
          ((λ made. absurd (true≢false (sym made))), (λ it. refl));
      admitted = λ r merchant g range is.
          let row = admitted_row today r range (next_reference t r merchant) in
          keeps_push rows rows row still
          (settled_other row (admissible_none r.service is.service) refl);
      completed = λ r merchant g hold is.
          let row = completion_row today r (prior_of hold) in
          let changed = followed_row (remains_of_hold (prior_of hold)) in
          keeps_push rows (with_changed hold.key changed rows) row
          (keeps_changed hold.key (hold_none r.moment hold hold.key.service is.opens) changed
          (λ x. refl) (λ x. refl) rows all)
          (settled_other row (ap is_reconciliation is.service) refl);
      reversed = λ r merchant g original is.
          let row = reversal_row today r (prior_of original) in
          let remains = remains_of (prior_of original) (remaining_in r.message) in
          keeps_push rows (with_changed original.key (followed_row remains) rows) row
          (keeps_changed original.key
          (other_by_status original (settled_in original rows is.member all)
          (reversible_open original.status is.reversible)) (followed_row remains)
          (λ x. refl) (λ x. remains_open (prior_of original) (remaining_in r.message)) rows all)
          (settled_other row (reversal_none r.service is.service) refl);
      reconciled = λ r merchant g day is.
          keeps_push rows rows (reconciliation_row (known_in t a) r day) still
          ((λ made. ap is_reconciliation is.service), (λ it. refl));
      answered = λ moment v row is.
          let changed = answered_row (answered_status v) (answered_reply row.reply v)
          (answered_hold_end row.key.service moment v row.hold_days) in
          keeps_changed row.key
          (other_by_status row (settled_in row rows is.member all) (ap is_final is.pending)) changed
          (λ x. refl) (λ x. answered_open v) rows all;
      cut_over = λ came before. still;
      range_added = λ range came valid free. still;
      range_dropped = λ low high came. still;
      enrolled = λ merchant came new. still;
      terminal_added = λ terminal came new. still;
    })

after_events : (t : Tables) (events : List Event) → AllByRecursion IsSettled t.requests →
    Keeps t.requests (tables_after t events).requests
after_events t [] all = keeps_itself t.requests all
after_events t (e ∷ es) all =
    let next = step_tables t (arrival_of e) in
    let first = after_step t (arrival_of e) all in
    let second = after_events next es first.settled in
    record {
      settled = second.settled;
      claims = λ asked days.
          from_then (claim_in asked days) t.requests next.requests
          (tables_after next es).requests (first.claims asked days) (second.claims asked days);
    }

-- ---- the requests of tables with a past are settled

pub settled_by_past : (t : Tables) → HasPast t → AllByRecursion IsSettled t.requests
settled_by_past t (opening, book) =
    subst (λ (s : Tables). AllByRecursion IsSettled s.requests) (sym book.after)
    (kept (λ (s : Tables). AllByRecursion IsSettled s.requests)
    (λ s a all. (after_step s a all).settled) (new_tables opening) book.events tt)

-- ---- and later ones, too

module _ (t : Tables) (events : List Event) (all : AllByRecursion IsSettled t.requests) where
  pub settled_later : AllByRecursion IsSettled (tables_after t events).requests
  settled_later = (after_events t events all).settled

  pub more_later : length t.requests ≤ length (tables_after t events).requests
  more_later =
      no_fewer (claim_in [] (record { first = 0; last = 0 })) t.requests
      (tables_after t events).requests
      ((after_events t events all).claims [] (record { first = 0; last = 0 }))

  pub claims_later : (asked : List (List ℕ)) (days : Days) (n : ℕ) → n ≤ length t.requests →
      filter_map (claim_in asked days) (take n t.requests)
      ≡ filter_map (claim_in asked days) (take n (tables_after t events).requests)
  claims_later asked days n within =
      first_claims (claim_in asked days) n t.requests (tables_after t events).requests within
      ((after_events t events all).claims asked days)
