-- Lines of a statement, in both forms.
use Rattle.std.specs.Prelude.{ℕ, List, [], ◌∷◌, ◌++◌, codes}
use Rattle.day_totals.specs.Day.{date_text_of}
use Rattle.day_totals.specs.Totals.{DayTotals, net_of, net_text_of}
use Rattle.acq_core.specs.declared.merchant.Merchant.{Merchant}
use Rattle.acq_reports.specs.Marks.{csv_line}
use Rattle.acq_reports.specs.SettlementReport.{balance_word}
use Rattle.acq_statement.specs.declared.claim.Claim.{Claim}
use Rattle.acq_statement.specs.declared.statement_form.StatementForm.{StatementForm}
use Rattle.acq_statement.specs.declared.statement_form.StatementForm.TheVariants.{Csv, Text}
use Rattle.acq_statement.specs.declared.terminal_sums.TerminalSums.{TerminalSums}
use Rattle.acq_statement.specs.ClaimTotals.{claim_totals}
use Rattle.acq_statement.specs.Fields.{claim_fields, totals_fields}
use Rattle.acq_statement.specs.LegTexts.{joined, legs_text, owed_text}

abbrev pub statement_header : StatementForm → List ℕ
statement_header Csv =
    codes "merchant,currency,day,line,terminal,trace,credits,credit_amount,credit_reversals,"
    ++ codes "credit_reversal_amount,debits,debit_amount,debit_reversals,"
    ++ codes "debit_reversal_amount,owed_to_merchant\n"
statement_header Text = []

-- a record of a merchant's day: the kind of line, and the terminal and the trace, if it has them
abbrev pub day_record : Merchant → ℕ → List ℕ → List ℕ → List ℕ → List (List ℕ) → List ℕ
day_record merchant day line terminal trace figures =
    csv_line (merchant.id ∷ merchant.currency ∷ date_text_of day ∷ line ∷ terminal ∷ trace
    ∷ figures)

abbrev pub title_line : StatementForm → Merchant → ℕ → List ℕ
title_line Csv merchant day = []
title_line Text merchant day =
    joined (merchant.id ∷ codes " " ∷ date_text_of day ∷ codes ", currency " ∷ merchant.currency
    ∷ codes "\n" ∷ [])

-- a terminal, and what it posted
abbrev pub terminal_line : StatementForm → Merchant → ℕ → TerminalSums → List ℕ
terminal_line Csv merchant day at =
    day_record merchant day (codes "terminal") at.id [] (totals_fields at.sums)
terminal_line Text merchant day at =
    joined (codes "  terminal " ∷ at.id ∷ codes ": " ∷ legs_text at.sums ∷ codes "\n" ∷ [])

-- the merchant's totals
abbrev pub total_line : StatementForm → Merchant → ℕ → DayTotals → List ℕ
total_line Csv merchant day t =
    day_record merchant day (codes "merchant") [] [] (totals_fields t)
total_line Text merchant day t =
    joined (codes "  merchant: " ∷ legs_text t ∷ codes ", net " ∷ net_text_of (net_of t)
    ∷ codes "\n" ∷ [])

-- what a terminal claimed
abbrev pub claimed_line : StatementForm → Merchant → ℕ → Claim → List ℕ
claimed_line Csv merchant day c =
    day_record merchant day (codes "claimed") c.terminal c.trace (claim_fields c.claimed)
claimed_line Text merchant day c =
    joined (codes "  claimed by " ∷ c.terminal ∷ codes " in " ∷ c.trace ∷ codes ": "
    ∷ legs_text (claim_totals c.claimed) ∷ codes ", net " ∷ net_text_of c.claimed.net
    ∷ codes "\n" ∷ [])

-- and what the host had then
abbrev pub found_line : StatementForm → Merchant → ℕ → Claim → List ℕ
found_line Csv merchant day c =
    day_record merchant day (codes "found") c.terminal c.trace (claim_fields c.found)
found_line Text merchant day c =
    joined (codes "  found for " ∷ c.terminal ∷ codes " in " ∷ c.trace ∷ codes ": "
    ∷ legs_text (claim_totals c.found) ∷ codes ", net " ∷ net_text_of c.found.net ∷ codes ", "
    ∷ balance_word c.in_balance ∷ codes "\n" ∷ [])

abbrev pub claim_lines : StatementForm → Merchant → ℕ → Claim → List ℕ
claim_lines form merchant day c =
    claimed_line form merchant day c ++ found_line form merchant day c

-- who owes whom how much
abbrev pub owed_line : StatementForm → DayTotals → List ℕ
owed_line Csv t = []
owed_line Text t = owed_text (codes "merchant") (codes " owes the acquirer ") t

-- a currency's sums, at the end
abbrev pub currency_lines : StatementForm → List ℕ → DayTotals → List ℕ
currency_lines Csv currency t =
    csv_line ([] ∷ currency ∷ [] ∷ codes "currency" ∷ [] ∷ [] ∷ totals_fields t)
currency_lines Text currency t =
    joined (codes "currency " ∷ currency ∷ codes ": " ∷ legs_text t ∷ codes "\n"
    ∷ owed_text (codes "merchants") (codes " owe the acquirer ") t ∷ [])
