-- Tables that the worked inquiries are computed on: at the first of two merchants a sale and its
-- reversal, a hold that was lowered, a return that waits, a reconciliation, a completed hold whose
-- completion was reversed, a request that was reversed while it waited, and one that was refused;
-- at the second a hold with the sale's reference.
use Rattle.std.specs.Prelude.{ℕ, true, List, [], ◌∷◌, codes, Some, None}
use Rattle.day_totals.specs.declared.leg.Leg.{Leg}
use Rattle.day_totals.specs.declared.leg.Leg.TheVariants.{Credit, Debit, DebitReversal}
use Rattle.iso_codec.specs.Message.{IsoMessage}
use Rattle.acq_message.specs.declared.service.Service.{Service}
use Rattle.acq_message.specs.declared.service.Service.TheVariants.{Authorization, Financial}
use Rattle.acq_message.specs.declared.service.Service.TheVariants.{Completion, Reversal}
use Rattle.acq_message.specs.declared.service.Service.TheVariants.{ReversalAdvice, Reconciliation}
use Rattle.acq_core.specs.declared.posting.Posting.{Posting}
use Rattle.acq_core.specs.declared.request.Request.{Request}
use Rattle.acq_core.specs.declared.status.Status.TheVariants.{Refused, Pending, Approved, Completed}
use Rattle.acq_core.specs.declared.status.Status.TheVariants.{Reversed, ReversedPending, Reconciled}
use Rattle.acq_core.specs.declared.status.Status.TheVariants.{Lowered}
use Rattle.acq_core.specs.Tables.{Tables}
use Rattle.acq_reports.specs.Worked.{first_merchant, second_merchant, worked_tables}

-- a reply to a request of 3000, with this processing code
abbrev pub worked_reply : List ℕ → List (ℕ × List ℕ) → IsoMessage
worked_reply processing more =
    record {
      kind = codes "0210";
      elements = (3, processing) ∷ (4, codes "000000003000") ∷ more;
    }

-- an approved request of 3000 on 2024-05-01, of a service and with a trace number
abbrev pub worked_request : Service → List ℕ → Request
worked_request service trace =
    record {
      key =
          record {
            merchant = first_merchant;
            terminal = codes "PUMP0001";
            service = service;
            trace = trace;
            transmission = codes "0501093000";
          };
      essence = [];
      day = 8887;
      status = Approved;
      admitted = true;
      reference = None;
      follows = None;
      amount = 3000;
      leg = Credit;
      card = Some (codes "4111111111111111");
      acquirer = None;
      hold_days = None;
      hold_end = None;
      reply = worked_reply (codes "000000") ((39, codes "00") ∷ []);
    }

-- it was reversed
abbrev pub worked_sale : Request
worked_sale =
    record (worked_request Financial (codes "000004")) {
      status = Reversed;
      reference = Some 5002;
      leg = Debit;
      reply = worked_reply (codes "000000") ((38, codes "000123") ∷ (39, codes "00") ∷ []);
    }

-- of the sale
abbrev pub worked_reversal : Request
worked_reversal =
    record (worked_request ReversalAdvice (codes "000005")) {
      follows = Some 5002;
      leg = DebitReversal;
    }

-- it was lowered to 2000, to 2024-05-02 09:30:00
abbrev pub worked_hold : Request
worked_hold =
    record (worked_request Authorization (codes "000006")) {
      status = Lowered;
      reference = Some 5003;
      amount = 2000;
      card = Some (codes "5500005555555559");
      hold_end = Some 1714642200;
    }

-- its issuer hasn't answered
abbrev pub worked_return : Request
worked_return =
    record (worked_request Financial (codes "000007")) {
      status = Pending;
      reference = Some 5004;
      reply = worked_reply (codes "200000") [];
    }

-- in balance
abbrev pub worked_reconciliation : Request
worked_reconciliation =
    record (worked_request Reconciliation (codes "000008")) {
      status = Reconciled;
      card = None;
    }

-- by the next
abbrev pub completed_hold : Request
completed_hold =
    record (worked_request Authorization (codes "000011")) {
      status = Completed;
      reference = Some 5005;
      hold_end = Some 1714642200;
    }

-- it was reversed
abbrev pub worked_completion : Request
worked_completion =
    record (worked_request Completion (codes "000012")) {
      status = Reversed;
      follows = Some 5005;
      leg = Debit;
    }

-- of the completion
abbrev pub completion_reversal : Request
completion_reversal =
    record (worked_request Reversal (codes "000013")) {
      follows = Some 5005;
      leg = DebitReversal;
    }

-- neither a sale nor a return, it was reversed while it waited
abbrev pub unanswered : Request
unanswered =
    record (worked_request Financial (codes "000014")) {
      status = ReversedPending;
      reference = Some 5006;
      leg = Debit;
      reply = worked_reply (codes "990000") [];
    }

-- it has the trace number of what it reverses
abbrev pub early_reversal : Request
early_reversal =
    record (worked_request Reversal (codes "000014")) {
      follows = Some 5006;
    }

-- for its card number
abbrev pub refused_hold : Request
refused_hold =
    record (worked_request Authorization (codes "000015")) {
      status = Refused;
      reply = worked_reply (codes "000000") ((39, codes "14") ∷ []);
    }

-- at the second merchant, it is open to the same moment
abbrev pub other_hold : Request
other_hold =
    record worked_hold {
      key = record (worked_hold.key) { merchant = second_merchant };
      status = Approved;
      reference = Some 5002;
    }

-- a posting of 3000 on 2024-05-01, with a trace number and a reference
abbrev pub worked_posting : Leg → List ℕ → ℕ → Posting
worked_posting leg trace reference =
    record {
      merchant = first_merchant;
      day = 8887;
      leg = leg;
      amount = 3000;
      reference = reference;
      card = codes "4111111111111111";
      terminal = codes "PUMP0001";
      trace = trace;
    }

-- the day's rows, in the order in which they came
abbrev pub asked_tables : Tables
asked_tables =
    record worked_tables {
      requests =
          worked_sale ∷ other_hold ∷ worked_reversal ∷ worked_hold ∷ worked_return
          ∷ worked_reconciliation ∷ completed_hold ∷ worked_completion ∷ completion_reversal
          ∷ unanswered ∷ early_reversal ∷ refused_hold ∷ [];
      postings =
          (2, worked_posting Debit (codes "000004") 5002)
          ∷ (3, worked_posting DebitReversal (codes "000005") 5002)
          ∷ (4, worked_posting Debit (codes "000012") 5005)
          ∷ (5, worked_posting DebitReversal (codes "000013") 5005) ∷ [];
    }
