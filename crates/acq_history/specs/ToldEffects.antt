-- A reply says 00 exactly where the request is approved, completes a hold or reverses its original:
-- so exactly where it posts, or opens, lowers or undoes a hold.
use Rattle.std.specs.Prelude.{◌≡◌, ◌↔◌, ℕ, Bool, true, false, ◌||◌, List, Some, None, is_some}
use Rattle.acq_message.specs.declared.request_key.RequestKey.{RequestKey}
use Rattle.acq_core.specs.declared.event.Event.{Event}
use Rattle.acq_core.specs.declared.arrival.Arrival.{Arrival}
use Rattle.acq_core.specs.declared.arrival.Arrival.TheVariants.{Requested, Answered}
use Rattle.acq_core.specs.Arrivals.{arrival_of}
use Rattle.acq_core.specs.Events.{IsEvent}
use Rattle.acq_core.specs.Tables.{Opening}
use Rattle.acq_soundness.specs.Requests.{is_admissible}
use Rattle.acq_history.specs.Entries.{Entry, is_acceptable}
use Rattle.acq_history.specs.History.{Found, aged, recorded, referred, approval_of, is_completed}
use Rattle.acq_history.specs.History.{is_reversed}
use Rattle.acq_history.specs.PartyHistory.{entry_for, history_of}
use Rattle.acq_history.specs.Told.{is_told_00}

-- what is about a card: an authorization, a sale, a return, a completion, a reversal, or an
-- issuer's answer; no reconciliation and no network management
abbrev pub is_about_card : Arrival → Bool
is_about_card (Requested r) = is_admissible r.service || is_acceptable r.service
is_about_card (Answered moment merchant reference verdict) = true
is_about_card arrival = false

-- what an entry makes of an earlier request: its issuer approves it, it is completed, or reversed,
-- as it wasn't before
pub data Does (e : Entry) (h : List Entry) : Type 0 where
  Approves : (reference : ℕ) (f : Found) → referred reference h ≡ Some f →
      approval_of f ≡ None → is_some (approval_of (aged e f)) ≡ true → Does e h
  Completes : (reference : ℕ) (f : Found) → referred reference h ≡ Some f →
      is_completed f ≡ false → is_completed (aged e f) ≡ true → Does e h
  Reverses : (key : RequestKey) (f : Found) → recorded key h ≡ Some f →
      is_reversed f ≡ false → is_reversed (aged e f) ≡ true → Does e h

-- Of what is about a card, 00 is told exactly where one of these is done.
abbrev pub DoesAsTold : List ℕ → Type 0
DoesAsTold m =
    (opening : Opening) (es : List Event) (next : Event) → IsEvent next →
    let h = history_of opening (Some m) es in
    let e = entry_for opening h (arrival_of next) in
    is_about_card (arrival_of next) ≡ true → (is_told_00 e.outcome ≡ true) ↔ Does e h
