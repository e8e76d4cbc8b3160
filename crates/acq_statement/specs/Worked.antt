-- Tables that the worked texts are computed on: sales at two merchants of one currency, of which
-- one also gave a return, and none at one of another.
use Rattle.std.specs.Prelude.{ℕ, false, List, [], ◌∷◌, ◌++◌, codes, None}
use Rattle.day_totals.specs.declared.leg.Leg.{Leg}
use Rattle.day_totals.specs.declared.leg.Leg.TheVariants.{Credit, Debit, DebitReversal}
use Rattle.acq_core.specs.declared.merchant.Merchant.{Merchant}
use Rattle.acq_core.specs.declared.posting.Posting.{Posting}
use Rattle.acq_core.specs.declared.request.Request.{Request}
use Rattle.acq_core.specs.declared.status.Status.TheVariants.{Reconciled}
use Rattle.acq_core.specs.Tables.{Tables}
use Rattle.acq_message.specs.declared.service.Service.TheVariants.{Reconciliation}
use Rattle.acq_statement.specs.declared.days.Days.{Days}
use Rattle.acq_reports.specs.Worked.{first_merchant, second_merchant, worked_merchant}
use Rattle.acq_reports.specs.Worked.{worked_hold, worked_posting, worked_reconciliation}
use Rattle.acq_reports.specs.Worked.{worked_tables}

-- a merchant of another currency
abbrev pub foreign_merchant : Merchant
foreign_merchant =
    record { id = codes "MERCHANT0000003"; currency = codes "840"; first_reference = 1 }

-- a posting of this amount at a merchant
abbrev pub posted : List ℕ → Leg → ℕ → Posting
posted merchant leg amount =
    record (worked_posting leg (codes "000001")) { merchant = merchant; amount = amount }

-- a reconciliation that came on the next day: two debits of 3500 were claimed, and the host had a
-- debit reversal of 400 besides
abbrev pub stated_reconciliation : Request
stated_reconciliation =
    record (worked_hold 1) {
      key =
          record {
            merchant = first_merchant;
            terminal = codes "TERM0001";
            service = Reconciliation;
            trace = codes "000011";
            transmission = codes "0502000001";
          };
      essence =
          codes "050080000000000000000078078080000000"
          ++ codes "0000000000" ++ codes "0000000000" ++ codes "0000000002" ++ codes "0000000000"
          ++ codes "0000000000000000" ++ codes "0000000000000000"
          ++ codes "0000000000003500" ++ codes "0000000000000000" ++ codes "D0000000000003500";
      day = 8888;
      status = Reconciled;
      admitted = false;
      reference = None;
      amount = 0;
      card = None;
      hold_days = None;
      hold_end = None;
      reply =
          record {
            kind = codes "0510";
            elements =
                (15, codes "0501") ∷ (66, codes "2") ∷ (74, codes "0000000000")
                ∷ (75, codes "0000000000") ∷ (76, codes "0000000002") ∷ (77, codes "0000000001")
                ∷ (86, codes "0000000000000000") ∷ (87, codes "0000000000000000")
                ∷ (88, codes "0000000000003500") ∷ (89, codes "0000000000000400")
                ∷ (97, codes "D0000000000003100") ∷ [];
          };
    }

-- a day of it
abbrev pub stated_days : Days
stated_days = record { first = 8887; last = 8887 }

-- rows in another order than that of the texts
abbrev pub stated_tables : Tables
stated_tables =
    record worked_tables {
      merchants =
          foreign_merchant ∷ worked_merchant second_merchant ∷ worked_merchant first_merchant ∷ [];
      terminals =
          record { merchant = second_merchant; id = codes "TERM0001" }
          ∷ record { merchant = first_merchant; id = codes "TERM0002" }
          ∷ record { merchant = first_merchant; id = codes "TERM0001" } ∷ [];
      requests = stated_reconciliation ∷ [];
      postings =
          (1, posted first_merchant Debit 2500) ∷ (1, posted second_merchant Credit 700)
          ∷ (2, posted first_merchant Debit 1000) ∷ (3, posted first_merchant DebitReversal 400)
          ∷ (2, posted second_merchant Debit 300) ∷ [];
      reconciliations = (1, worked_reconciliation) ∷ [];
    }
