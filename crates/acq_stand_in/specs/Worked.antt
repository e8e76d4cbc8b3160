-- Values that the worked rows are computed on.
use Rattle.std.specs.Prelude.{ℕ, true, List, [], ◌∷◌, Some, None, codes}
use Rattle.day_totals.specs.declared.leg.Leg.TheVariants.{Debit}
use Rattle.acq_message.specs.declared.service.Service.TheVariants.{Financial}
use Rattle.acq_message.specs.declared.verdict.Verdict.TheVariants.{Approved, Declined, NoAnswer}
use Rattle.acq_core.specs.declared.request.Request.{Request}
use Rattle.acq_core.specs.declared.status.Status.{Status}
use Rattle.acq_core.specs.declared.status.Status.TheVariants as status
use Rattle.acq_core.specs.Tables.{Tables}
use Rattle.acq_stand_in.specs.declared.card_answer.CardAnswer.{CardAnswer}

abbrev pub approving : CardAnswer
approving =
    record {
      card = Some (codes "4111111111111111");
      verdict = Approved (codes "A1B2C3");
      takes = 0;
    }

-- the same answer, a quarter of a second later
abbrev pub approving_later : CardAnswer
approving_later = record approving { takes = 250 }

abbrev pub declining : CardAnswer
declining =
    record { card = Some (codes "5500005555555559"); verdict = Declined (codes "51"); takes = 0 }

abbrev pub silent : CardAnswer
silent = record { card = Some (codes "5500005555555559"); verdict = NoAnswer; takes = 0 }

-- its last digit is not the check digit
abbrev pub of_no_card : CardAnswer
of_no_card = record { card = None; verdict = Declined (codes "51"); takes = 0 }

-- ---- tables with requests that wait

abbrev pub worked_merchant : List ℕ
worked_merchant = codes "MERCHANT0000001"

-- in CSV it stands in quotes
abbrev pub quoted_merchant : List ℕ
quoted_merchant = codes "SHOES, BAGS&CO "

-- a sale of 1000, of a merchant with a reference, on a day, by a card
abbrev pub worked_sale : List ℕ → ℕ → ℕ → List ℕ → Status → Request
worked_sale merchant reference day card status =
    record {
      key =
          record {
            merchant = merchant;
            terminal = codes "TERM0001";
            service = Financial;
            trace = codes "000001";
            transmission = codes "0501093000";
          };
      essence = [];
      day = day;
      status = status;
      admitted = true;
      reference = Some reference;
      follows = None;
      amount = 1000;
      leg = Debit;
      card = Some card;
      acquirer = None;
      hold_days = Some 7;
      hold_end = None;
      reply = record { kind = codes "0210"; elements = [] };
    }

-- on 2024-05-01 a sale that waits, and one that is approved; on the day behind it one that waits
abbrev pub worked_tables : Tables
worked_tables =
    record {
      limit = 999999;
      day = 8888;
      merchants = [];
      terminals = [];
      ranges = [];
      requests =
          worked_sale worked_merchant 12 8887 (codes "4111111111111111") status.Pending
          ∷ worked_sale worked_merchant 13 8887 (codes "4111111111111111") status.Approved
          ∷ worked_sale quoted_merchant 7 8888 (codes "5500005555555559") status.Pending ∷ [];
      postings = [];
      reconciliations = [];
    }
