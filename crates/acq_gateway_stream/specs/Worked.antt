-- A book that the worked lines are computed on: a sale that waits for its issuer, a hold and its
-- completion, a sale that was ended without an answer, one that was declined, and one of which its
-- reversal lets 4.00 remain.
use Rattle.std.specs.Prelude.{ℕ, true, List, [], ◌∷◌, ◌++◌, codes, Option, Some, None}
use Rattle.iso_codec.specs.Message.{IsoMessage}
use Rattle.day_totals.specs.declared.leg.Leg.TheVariants.{Debit}
use Rattle.acq_message.specs.declared.service.Service.{Service}
use Rattle.acq_message.specs.declared.service.Service.TheVariants.{Authorization, Completion}
use Rattle.acq_message.specs.declared.service.Service.TheVariants.{Financial, Reversal}
use Rattle.acq_core.specs.declared.request.Request.{Request}
use Rattle.acq_core.specs.declared.status.Status.{Status}
use Rattle.acq_core.specs.declared.status.Status.TheVariants as status
use Rattle.acq_core.specs.Tables.{Tables}
use Rattle.acq_gateway_lines.specs.declared.waiting_message.WaitingMessage.{WaitingMessage}

abbrev pub merchant : List ℕ
merchant = codes "MERCHANT0000001"

-- a reply with this code
abbrev pub reply_with : List ℕ → IsoMessage
reply_with code = record { kind = codes "0210"; elements = (39, code) ∷ [] }

-- a request of 10.00
abbrev pub worked_request : Service → Status → (reference follows : Option ℕ) → IsoMessage → Request
worked_request service status reference follows reply =
    record {
      key =
          record {
            merchant = merchant;
            terminal = codes "TERM0001";
            service = service;
            trace = codes "000001";
            transmission = codes "0501093000";
          };
      essence = [];
      day = 8887;
      status = status;
      admitted = true;
      reference = reference;
      follows = follows;
      amount = 1000;
      leg = Debit;
      card = Some (codes "4111111111111111");
      acquirer = None;
      hold_days = Some 7;
      hold_end = None;
      reply = reply;
    }

abbrev pub waiting_sale : Request
waiting_sale =
    worked_request Financial status.Pending (Some 1) None
    (record { kind = codes "0210"; elements = [] })

-- what the reversal's message says: what remains, and its original
abbrev pub reversal_text : List ℕ
reversal_text =
    codes "0420902000000000000000000042000000000000000010000000"
    ++ codes "060200000005050109300000000000000000000000000000000004000000"
    ++ codes "00000000000000000000000000"

abbrev pub worked_reversal : Request
worked_reversal =
    record (worked_request Reversal status.Approved None (Some 5) (reply_with (codes "00"))) {
      essence = reversal_text;
      card = None;
    }

abbrev pub worked_tables : Tables
worked_tables =
    record {
      limit = 999999;
      day = 8887;
      merchants = record { id = merchant; currency = codes "978"; first_reference = 1 } ∷ [];
      terminals = [];
      ranges =
          record { low = 40000000; high = 49999999; issuer = codes "12345"; hold_days = 7 } ∷ [];
      requests =
          waiting_sale
          ∷ worked_request Authorization status.Completed (Some 2) None (reply_with (codes "00"))
          ∷ worked_request Completion status.Approved None (Some 2) (reply_with (codes "00"))
          ∷ worked_request Financial status.Declined (Some 3) None (reply_with (codes "91"))
          ∷ worked_request Financial status.Declined (Some 4) None (reply_with (codes "51"))
          ∷ worked_request Financial status.Approved (Some 5) None (reply_with (codes "00"))
          ∷ worked_reversal ∷ [];
      postings = [];
      reconciliations = [];
    }

-- what the terminal sent, of which two bytes are enough here
abbrev pub message : WaitingMessage
message = record { merchant = merchant; reference = 1; text = codes "0:" }
