-- A merchant's reconciliations, by its own history.
use Rattle.std.specs.Prelude.{◌≡◌, ℕ, ◌&&◌, List, [], ◌∷◌, filter, Option, Some, None, option_map}
use Rattle.std.specs.Prelude.{is_none, if◌then◌else◌}
use Rattle.std.specs.Str.{bytes_eq}
use Rattle.iso_codec.specs.Message.{content_of}
use Rattle.day_totals.specs.Totals.{agrees_with}
use Rattle.acq_message.specs.declared.service.Service.{Service}
use Rattle.acq_message.specs.declared.service.Service.TheVariants.{Reconciliation}
use Rattle.acq_message.specs.declared.request_message.RequestMessage.{RequestMessage}
use Rattle.acq_message.specs.Claims.{claimed_in}
use Rattle.acq_message.specs.Elements.{text_at, key_of}
use Rattle.acq_core.specs.declared.event.Event.{Event}
use Rattle.acq_core.specs.declared.reconciliation.Reconciliation as row
use Rattle.acq_core.specs.declared.arrival.Arrival.{Arrival}
use Rattle.acq_core.specs.declared.arrival.Arrival.TheVariants.{Requested}
use Rattle.acq_core.specs.Known.{reconciled_day}
use Rattle.acq_core.specs.Tables.{Opening, totals_on, with_next_reconciliation}
use Rattle.acq_history.specs.Entries.{Entry, is_past_merchant}
use Rattle.acq_history.specs.History.{recorded, postings}
use Rattle.acq_history.specs.PartyHistory.{history_of, book_after}

-- a reconciliation of a day is in balance where it claims the totals of the postings so far
abbrev pub reconciliation_on : RequestMessage → List Entry → ℕ → row.Reconciliation
reconciliation_on r h day =
    record {
      merchant = text_at r.message 42;
      day = day;
      in_balance = agrees_with (claimed_in r.message) (totals_on (postings h) day);
    }

-- the reconciliation that a request makes: one that the merchant check passed, under a new key, of
-- a day that resolves
abbrev pub reconciliation_by :
    Service → Entry → List Entry → RequestMessage → Option row.Reconciliation
reconciliation_by Reconciliation e h r =
    if is_past_merchant e.outcome && is_none (recorded (key_of Reconciliation r.message) h)
    then option_map (reconciliation_on r h)
    (reconciled_day e.day (content_of r.message.elements 15))
    else None
reconciliation_by service e h r = None

abbrev pub reconciliation_from : Arrival → Entry → List Entry → Option row.Reconciliation
reconciliation_from (Requested r) e h = reconciliation_by r.service e h r
reconciliation_from arrival e h = None

-- one more, if there is one
abbrev pub with_reconciliation :
    List (ℕ × row.Reconciliation) → Option row.Reconciliation → List (ℕ × row.Reconciliation)
with_reconciliation rows None = rows
with_reconciliation rows (Some p) = with_next_reconciliation rows p

-- the reconciliations of the entries in their order, each with its number of the day
abbrev pub reconciliations : List Entry → List (ℕ × row.Reconciliation)
reconciliations [] = []
reconciliations (e ∷ h) =
    with_reconciliation (reconciliations h) (reconciliation_from e.arrival e h)

-- the merchant's rows
abbrev pub reconciliations_of :
    List ℕ → List (ℕ × row.Reconciliation) → List (ℕ × row.Reconciliation)
reconciliations_of m rows = filter (λ x. bytes_eq x.1.merchant m) rows

-- A merchant's rows of reconciliations are the reconciliations of its own history.
abbrev pub ReconcilesAlone : List ℕ → Type 0
ReconcilesAlone m =
    (opening : Opening) (es : List Event) →
    reconciliations_of m (book_after opening es).reconciliations
    ≡ reconciliations (history_of opening (Some m) es)
