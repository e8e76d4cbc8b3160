-- When a reconciliation is in balance, and what its reply says of it.
use Rattle.std.specs.Prelude.{◌≡◌, ◌↔◌, ℕ, Bool, true, List, Some, None, is_some, codes}
use Rattle.iso_codec.specs.Message.{IsoMessage, content_of}
use Rattle.day_totals.specs.Totals.{DayTotals, Agrees}
use Rattle.acq_core.specs.declared.event.Event.{Event}
use Rattle.acq_message.specs.declared.service.Service.TheVariants.{Reconciliation}
use Rattle.acq_message.specs.declared.request_message.RequestMessage.{RequestMessage}
use Rattle.acq_core.specs.declared.arrival.Arrival.TheVariants.{Requested}
use Rattle.acq_core.specs.Known.{reconciled_day}
use Rattle.acq_core.specs.Outcome.{Replied, outcome, balance_code}
use Rattle.acq_message.specs.Claims.{claimed_in}
use Rattle.acq_message.specs.Elements.{text_at, key_of}
use Rattle.acq_message.specs.Reply.{totals_reply}
use Rattle.acq_core.specs.Tables.{Opening, totals_on}
use Rattle.acq_history.specs.Entries.{Entry}
use Rattle.acq_history.specs.History.{enrolled, has_terminal, recorded, postings, day_after}
use Rattle.acq_history.specs.PartyHistory.{known_by, history_of}

-- A reconciliation of a day, by a terminal that its merchant has, under a new key: the day is the
-- one that it names, else today.
pub record IsReconciliation (opening : Opening) (h : List Entry) (r : RequestMessage)
    (day : ℕ) : Type 0 where
  pub service : r.service ≡ Reconciliation
  pub merchant : is_some (enrolled h) ≡ true
  pub terminal : has_terminal h (text_at r.message 41) ≡ true
  pub new : recorded (key_of r.service r.message) h ≡ None
  pub resolves :
      reconciled_day (day_after opening.first_day h) (content_of r.message.elements 15) ≡ Some day

-- A reply says exactly whether the claims are the totals: elements 66 and 39 are 1 and 00 where
-- they are, and 2 and 95 where they aren't.
pub record SaysBalance (reply : IsoMessage) (agrees : Type 0) : Type 0 where
  pub in_balance : (content_of reply.elements 66 ≡ Some (codes "1")) ↔ agrees
  pub out_of_balance : (content_of reply.elements 66 ≡ Some (codes "2")) ↔ ¬ agrees
  pub approved : (content_of reply.elements 39 ≡ Some (codes "00")) ↔ agrees
  pub refused : (content_of reply.elements 39 ≡ Some (codes "95")) ↔ ¬ agrees

-- the reply to a reconciliation of a day with these totals
abbrev pub balance_reply : ℕ → RequestMessage → Bool → DayTotals → IsoMessage
balance_reply day r in_balance totals =
    totals_reply day r (balance_code in_balance) in_balance totals

-- What a reconciliation of a day gets on a history: its reply has the totals of the postings of
-- that day, and says that it is in balance exactly where the claimed counts and sums are these
-- totals, and the claimed net is theirs as a number.
pub record IsBalanced (opening : Opening) (h : List Entry) (r : RequestMessage)
    (day : ℕ) : Type 0 where
  pub in_balance : Bool
  pub replied :
      outcome (known_by opening h (Requested r)) (Requested r)
      ≡ Replied (balance_code in_balance)
      (balance_reply day r in_balance (totals_on (postings h) day))
  pub exactly : (in_balance ≡ true) ↔ Agrees (claimed_in r.message) (totals_on (postings h) day)
  pub says :
      SaysBalance (balance_reply day r in_balance (totals_on (postings h) day))
      (Agrees (claimed_in r.message) (totals_on (postings h) day))

-- Every reconciliation whose day resolves is balanced by its merchant's own postings.
abbrev pub BalancesExactly : List ℕ → Type 0
BalancesExactly m =
    (opening : Opening) (day : ℕ) (es : List Event) (r : RequestMessage) →
    let h = history_of opening (Some m) es in
    IsReconciliation opening h r day → IsBalanced opening h r day
