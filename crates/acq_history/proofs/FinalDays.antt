-- A day that is past and has no pending request keeps its postings.
use Rattle.std.proofs.Common.{◌≡◌, ℕ, ◌<◌, List, [], ◌∷◌, ◌++◌, Option, Some, None, Bool, false}
use Rattle.std.proofs.Common.{inl, inr, refl, sym, ap, ◌∙◌, arith}
use Rattle.std.proofs.lemmas.Bool.Decides.{nat_tests}
use Rattle.std.specs.Prelude.{◌&&◌, ◌||◌, ◌==◌}
use Rattle.day_totals.specs.declared.leg.Leg.{Leg}
use Rattle.acq_core.specs.declared.event.Event.{Event}
use Rattle.acq_message.specs.declared.request_key.RequestKey.{RequestKey}
use Rattle.acq_core.specs.declared.request.Request.{Request}
use Rattle.acq_core.specs.declared.status.Status.{Status}
use Rattle.acq_core.specs.declared.status.Status.TheVariants.{Pending}
use Rattle.acq_core.specs.declared.posting.Posting.{Posting}
use Rattle.acq_message.specs.declared.verdict.Verdict.{Verdict}
use Rattle.acq_message.specs.declared.verdict.Verdict.TheVariants as verdict
use Rattle.acq_core.specs.Arrivals.{arrival_of}
use Rattle.acq_core.specs.Known.{Prior}
use Rattle.acq_core.specs.Changes.{change_of, answered_status, answer_posting}
use Rattle.acq_message.specs.Elements.{remaining_in}
use Rattle.acq_core.specs.Changes.{approval_posting, reversal_posting, completion_posting}
use Rattle.acq_core.specs.Tables.{Tables, is_pending, known_in, with_changed, with_next_posting}
use Rattle.acq_core.specs.Tables.{after_any, step_tables, tables_after, prior_of}
use Rattle.acq_history.specs.DaySums.{postings_on}
use Rattle.acq_history.specs.Finality.{has_pending}
use Rattle.acq_soundness.proofs.Members.{In, In-push, any_none}
use Rattle.acq_soundness.proofs.Lookups.{some_is, filter-push_out}
use Rattle.acq_history.proofs.DayOfPosting.{reversal_posting_day}
use Rattle.acq_soundness.proofs.RowsWithChanges.{Other, Made, changed_is}
use Rattle.acq_soundness.proofs.WhatRemains.{hold_ended, original_ended, not_pending}
use Rattle.acq_soundness.proofs.StepCases.{by_step}
use Rattle.acq_core.specs.declared.arrival.Arrival.{Arrival}
use Rattle.acq_soundness.proofs.Runs.{tables_after-append}

-- ---- what is pending

-- no request of a day is pending
abbrev NonePending : ℕ → List Request → Type 0
NonePending day rows = (row : Request) → In row rows → row.status ≡ Pending → row.day ≡ day → ⊥

-- a row more that isn't pending on it
NonePending-push : (day : ℕ) (rows : List Request) (row : Request) → NonePending day rows →
    (row.status ≡ Pending → row.day ≡ day → ⊥) → NonePending day (rows ++ row ∷ [])
NonePending-push day rows row none new x member pending on =
    elim (In-push x rows row member) [
      | inl old ↦ none x old pending on
      | inr e ↦ new (ap (λ z. z.status) e ∙ pending) (ap (λ z. z.day) e ∙ on)
    ]

-- a row that is changed, and then isn't pending
NonePending-changed : (day : ℕ) (key : RequestKey) (changed : Request → Request)
    (rows : List Request) →
    NonePending day rows → ((row : Request) → (changed row).status ≡ Pending → ⊥) →
    NonePending day (with_changed key changed rows)
NonePending-changed day key changed rows none never x member pending on =
    elim (changed_is key changed rows x member) [
      | Other old other ↦ none x old pending on
      | Made y old same e ↦ never y (ap (λ z. z.status) e ∙ pending)
    ]

-- an answer ends the wait
answered_not_pending : (v : Verdict) → answered_status v ≡ Pending → ⊥
answered_not_pending (verdict.Approved id) e = absurd (cc)
answered_not_pending other e = absurd (cc)

-- ---- what is posted

-- two days are not one
not_on : (a b : ℕ) → (a ≡ b → ⊥) → (a == b) ≡ false
not_on a b h = grind (arith, nat_tests)

-- a posting of another day
posted_elsewhere : (day : ℕ) (rows : List (ℕ × Posting)) (o : Option Posting) →
    ((p : Posting) → o ≡ Some p → p.day ≡ day → ⊥) →
    postings_on day (with_next_posting rows o) ≡ postings_on day rows
posted_elsewhere day rows None other = refl
posted_elsewhere day rows (Some p) other =
    filter-push_out _ rows _ (not_on p.day day (other p refl))

-- an approval posts to its request's day
approval_day : (p : Prior) (o : Option Leg) (q : Posting) → approval_posting p o ≡ Some q →
    q.day ≡ p.day
approval_day p None q e = absurd (cc)
approval_day p (Some leg) q e = sym (ap (λ x. x.day) (some_is _ q e))

-- so does any answer that posts
answer_day : (v : Verdict) (p : Prior) (q : Posting) → answer_posting v p ≡ Some q → q.day ≡ p.day
answer_day (verdict.Approved id) p q e = approval_day p p.leg q e
answer_day other p q e = absurd (cc)

-- ---- steps

-- a day is past, and nothing of it is pending
record IsClosed (day : ℕ) (t : Tables) : Type 0 where
  past : day < t.day
  none : NonePending day t.requests

-- it stays so, and its postings stay
record StaysClosed (day : ℕ) (t u : Tables) : Type 0 where
  closed : IsClosed day u
  same : postings_on day u.postings ≡ postings_on day t.postings

-- a row more that isn't pending on it, and posts nothing
stays_with_row : (day : ℕ) (t : Tables) (row : Request) →
    (row.status ≡ Pending → row.day ≡ day → ⊥) → IsClosed day t →
    StaysClosed day t (record t { requests = t.requests ++ row ∷ [] })
stays_with_row day t row never c = record {
  closed = record { past = c.past; none = NonePending-push day t.requests row c.none never };
  same = refl;
}

-- each step leaves a closed day as it is
stays : (day : ℕ) (t : Tables) (a : Arrival) → IsClosed day t → StaysClosed day t (step_tables t a)
stays day t a c =
    by_step t a (λ d. StaysClosed day t (after_any t (change_of (known_in t a) d)))
    (record {
      reported = λ o not. record { closed = c; same = refl };
      malformed = λ r came. record { closed = c; same = refl };
      replied = λ r came given hosts. record { closed = c; same = refl };
      repeated = λ row member. record { closed = c; same = refl };
      refused = λ r merchant g given hosts. stays_with_row day t _ (λ s on. absurd (cc)) c;
      admitted = λ r merchant g range own.
          stays_with_row day t _ (λ s on. let past = c.past in omega arith) c;
      completed = λ r merchant g hold own. record {
        closed =
            record {
              past = c.past;
              none =
                  NonePending-push day _ _
                  (NonePending-changed day hold.key _ t.requests c.none
                  (λ row s. not_pending _ (hold_ended (prior_of hold)) s))
                  (λ s on. absurd (cc));
            };
        same =
            posted_elsewhere day t.postings (Some (completion_posting t.day r (prior_of hold)))
            (λ p q on. let past = c.past in let posted : t.day ≡ p.day =
            ap (λ x. x.day) (some_is _ p q)
            in omega arith);
      };
      reversed = λ r merchant g row own. record {
        closed =
            record {
              past = c.past;
              none =
                  NonePending-push day _ _
                  (NonePending-changed day row.key _ t.requests c.none
                  (λ x s. not_pending _ (original_ended (prior_of row) (remaining_in r.message)) s))
                  (λ s on. absurd (cc));
            };
        same =
            posted_elsewhere day t.postings (reversal_posting t.day r (prior_of row))
            (λ q posted on. let past = c.past in let today =
            reversal_posting_day t.day r (prior_of row) q posted in
            omega arith);
      };
      reconciled = λ r merchant g when own.
          record {
            closed = record {
              past = c.past;
              none = NonePending-push day t.requests _ c.none (λ s on. absurd (cc));
            };
            same = refl;
          };
      answered = λ moment v row own. record {
        closed =
            record {
              past = c.past;
              none = NonePending-changed day row.key _ t.requests c.none
                  (λ x s. answered_not_pending v s);
            };
        same =
            posted_elsewhere day t.postings (answer_posting v (prior_of row))
            (λ q posted on. c.none row own.member own.pending
            (sym (answer_day v (prior_of row) q posted) ∙ on));
      };
      cut_over = λ came before.
          record {
            closed = record { past = let past = c.past in omega arith; none = c.none };
            same = refl;
          };
      range_added = λ range came valid free.
          record { closed = record { past = c.past; none = c.none }; same = refl };
      range_dropped = λ low high came.
          record { closed = record { past = c.past; none = c.none }; same = refl };
      enrolled = λ merchant came new.
          record { closed = record { past = c.past; none = c.none }; same = refl };
      terminal_added = λ terminal came new.
          record { closed = record { past = c.past; none = c.none }; same = refl };
    })

-- so do events, one after the other
stays_after : (day : ℕ) (t : Tables) (es : List Event) → IsClosed day t →
    StaysClosed day t (tables_after t es)
stays_after day t [] c = record { closed = c; same = refl }
stays_after day t (e ∷ es) c =
    let step = stays day t (arrival_of e) c in
    let rest = stays_after day (step_tables t (arrival_of e)) es step.closed in
    record { closed = rest.closed; same = rest.same ∙ step.same }

-- what is past without a pending request is closed
is_closed : (day : ℕ) (t : Tables) → day < t.day → has_pending day t.requests ≡ false →
    IsClosed day t
is_closed day t past none = record {
  past = past;
  none =
      λ row member pending on.
      none_pending_on row pending on
      (any_none (λ x. is_pending x.status && (x.day == day)) t.requests none row member);
}
  where
    none_pending_on : (row : Request) → row.status ≡ Pending → row.day ≡ day →
        (is_pending row.status && (row.day == day)) ≡ false → ⊥
    none_pending_on row pending on h =
        let left : (row.day == day) ≡ false =
        sym (ap (λ s. is_pending s && (row.day == day)) pending) ∙ h in
        grind (arith, nat_tests)

-- where no row is pending on a day, none is found
none_found : (day : ℕ) (rows : List Request) → NonePending day rows → has_pending day rows ≡ false
none_found day [] none = refl
none_found day (row ∷ rows) none =
    not_either (is_pending row.status && (row.day == day)) (has_pending day rows)
    (not_on_day row.status refl)
    (none_found day rows (λ x member. none x (inr member)))
  where
    not_either : (a b : Bool) → a ≡ false → b ≡ false → (a || b) ≡ false
    not_either a b e f = λ i. e i || f i

    not_on_day : (s : Status) → row.status ≡ s → (is_pending s && (row.day == day)) ≡ false
    not_on_day Pending e = not_on row.day day (λ on. none row (inl refl) e on)
    not_on_day s e = refl

-- a day that is past without a pending request stays so
pub closed_day_stays : (t : Tables) (day : ℕ) (es : List Event) → day < t.day →
    has_pending day t.requests ≡ false →
    (day < (tables_after t es).day) × (has_pending day (tables_after t es).requests ≡ false)
closed_day_stays t day es past none =
    let closed = (stays_after day t es (is_closed day t past none)).closed in
    (closed.past, none_found day (tables_after t es).requests closed.none)

-- so its postings are final
pub postings_of_closed_day : (t : Tables) (day : ℕ) (es more : List Event) →
    day < (tables_after t es).day → has_pending day (tables_after t es).requests ≡ false →
    postings_on day (tables_after t (es ++ more)).postings ≡ postings_on day
    (tables_after t es).postings
postings_of_closed_day t day es more past none =
    ap (λ x. postings_on day x.postings) (tables_after-append t es more)
    ∙ (stays_after day (tables_after t es) more (is_closed day (tables_after t es) past none)).same
