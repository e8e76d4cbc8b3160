-- What a run promises each party: what it gets depends on its own events alone.
use Rattle.std.specs.Prelude.{◌≡◌, ℕ, ◌<◌, false, List, ◌∷◌, ◌++◌, length, map, Some, slice_get}
use Rattle.iso_codec.specs.Reading.{spelling}
use Rattle.acq_message.specs.declared.request_message.RequestMessage.{RequestMessage}
use Rattle.acq_core.specs.declared.event.Event.{Event}
use Rattle.acq_core.specs.declared.output.Output.{Output}
use Rattle.acq_core.specs.declared.output.Output.TheVariants as output
use Rattle.acq_core.specs.declared.arrival.Arrival.TheVariants.{Requested}
use Rattle.acq_core.specs.Arrivals.{arrival_of, merchant_named}
use Rattle.acq_core.specs.Tables.{Opening, Tables, prior_of, requests_of, postings_of, totals_on}
use Rattle.acq_history.specs.History.{prior, postings}
use Rattle.acq_history.specs.PartyHistory.{Party, own, history_of, book_after}
use Rattle.acq_history.specs.PartyHistory.{outputs_at, outputs_alone}
use Rattle.acq_history.specs.Isolation.{all_recorded, open_at}
use Rattle.acq_history.specs.Reconciliations.{reconciliations_of, reconciliations}
use Rattle.acq_history.specs.Balance.{IsReconciliation, IsBalanced, balance_reply}
use Rattle.acq_history.specs.Conservation.{IsConserved}
use Rattle.acq_history.specs.DaySums.{postings_on}
use Rattle.acq_history.specs.Finality.{has_pending}

-- what a merchant's reconciliation gets: its reply has the totals over the merchant's own postings,
-- and says that it is in balance exactly where these are what it claims
pub record GetsBalance (opening : Opening) (m : List ℕ) (before : List Event) (r : RequestMessage)
    (day : ℕ) (said : List Output) (place : ℕ) : Type 0 where
  pub balanced : IsBalanced opening (history_of opening (Some m) before) r day
  pub is_said :
      slice_get said place
      ≡ Some (output.Reply (Some m)
      (spelling (balance_reply day r balanced.in_balance
      (totals_on (postings (history_of opening (Some m) before)) day))))

-- each reconciliation among further events by a terminal that its merchant has, under a new key,
-- whose day resolves, gets its balance
abbrev pub AreBalanced : Opening → List Event → List Event → List Output → Type 0
AreBalanced opening past further said =
    (before later : List Event) (e : Event) (m : List ℕ) (r : RequestMessage) (day : ℕ) →
    further ≡ before ++ e ∷ later →
    arrival_of e ≡ Requested r →
    merchant_named (Requested r) ≡ Some m →
    IsReconciliation opening (history_of opening (Some m) (past ++ before)) r day →
    GetsBalance opening m (past ++ before) r day said (length before)

-- After a past, further events gave these outputs and led to these tables. Each merchant, and
-- nobody, got what its own events alone give; so it is with a merchant's postings, its open holds
-- and its reconciliations; and each reconciliation got its balance.
pub record RanAlone (opening : Opening) (past further : List Event) (said : List Output)
    (t : Tables) : Type 0 where
  pub outputs : (party : Party) →
      outputs_at party further said
      ≡ outputs_alone opening party (history_of opening party past) (own party further)
  pub posted : (m : List ℕ) →
      postings_of m t.postings ≡ postings (history_of opening (Some m) (past ++ further))
  pub holds : (m : List ℕ) (moment : ℕ) →
      open_at moment (map prior_of (requests_of m t.requests))
      ≡ open_at moment (map prior (all_recorded (history_of opening (Some m) (past ++ further))))
  pub reconciled : (m : List ℕ) →
      reconciliations_of m t.reconciliations
      ≡ reconciliations (history_of opening (Some m) (past ++ further))
  pub balanced : AreBalanced opening past further said

-- so it is whatever past led to the tables from which the run began
abbrev pub IsAlone : Tables → List Event → List Output → Tables → Type 0
IsAlone t further said now =
    (opening : Opening) (past : List Event) → t ≡ book_after opening past →
    RanAlone opening past further said now

-- What was posted is conserved, and a day that was past, with none of its requests pending, kept
-- its postings.
pub record KeptItsPostings (t now : Tables) : Type 0 where
  pub conserved : IsConserved now.postings
  pub final : (day : ℕ) → day < t.day → has_pending day t.requests ≡ false →
      postings_on day now.postings ≡ postings_on day t.postings
