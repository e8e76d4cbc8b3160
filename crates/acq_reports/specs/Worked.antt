-- Tables that the worked texts are computed on: a sale and its reversal at the first of two
-- merchants, and two holds of it.
use Rattle.std.specs.Prelude.{ℕ, true, List, [], ◌∷◌, codes, Some, None}
use Rattle.day_totals.specs.declared.leg.Leg.{Leg}
use Rattle.day_totals.specs.declared.leg.Leg.TheVariants.{Credit, Debit, DebitReversal}
use Rattle.acq_message.specs.declared.service.Service.TheVariants.{Authorization}
use Rattle.acq_core.specs.declared.merchant.Merchant.{Merchant}
use Rattle.acq_core.specs.declared.posting.Posting.{Posting}
use Rattle.acq_core.specs.declared.reconciliation.Reconciliation.{Reconciliation}
use Rattle.acq_core.specs.declared.request.Request.{Request}
use Rattle.acq_core.specs.declared.status.Status.TheVariants.{Approved}
use Rattle.acq_core.specs.Tables.{Tables}

abbrev pub first_merchant : List ℕ
first_merchant = codes "MERCHANT0000001"

abbrev pub second_merchant : List ℕ
second_merchant = codes "MERCHANT0000002"

abbrev pub worked_merchant : List ℕ → Merchant
worked_merchant id = record { id = id; currency = codes "978"; first_reference = 1 }

-- a posting of 1000 on 2024-05-01
abbrev pub worked_posting : Leg → List ℕ → Posting
worked_posting leg trace =
    record {
      merchant = first_merchant;
      day = 8887;
      leg = leg;
      amount = 1000;
      reference = 1;
      card = codes "4111111111111111";
      terminal = codes "TERM0001";
      trace = trace;
    }

-- a hold of 5000 to 2024-05-02 09:30:00
abbrev pub worked_hold : ℕ → Request
worked_hold reference =
    record {
      key =
          record {
            merchant = first_merchant;
            terminal = codes "TERM0001";
            service = Authorization;
            trace = codes "000020";
            transmission = codes "0501093000";
          };
      essence = [];
      day = 8887;
      status = Approved;
      admitted = true;
      reference = Some reference;
      follows = None;
      amount = 5000;
      leg = Credit;
      card = Some (codes "5500005555555559");
      acquirer = None;
      hold_days = Some 1;
      hold_end = Some 1714642200;
      reply = record { kind = codes "0110"; elements = [] };
    }

-- rows in another order than that of the texts
abbrev pub worked_tables : Tables
worked_tables =
    record {
      limit = 999999;
      day = 8888;
      merchants = worked_merchant second_merchant ∷ worked_merchant first_merchant ∷ [];
      terminals = [];
      ranges = [];
      requests = worked_hold 2 ∷ worked_hold 1 ∷ [];
      postings =
          (2, worked_posting DebitReversal (codes "000003"))
          ∷ (1, worked_posting Debit (codes "000001")) ∷ [];
      reconciliations = [];
    }

abbrev pub worked_reconciliation : Reconciliation
worked_reconciliation = record { merchant = first_merchant; day = 8887; in_balance = true }
