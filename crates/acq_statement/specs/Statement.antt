-- Statements of merchants (own profile): for each merchant and each day a block of lines, and sums
-- by currency at the end.
use Rattle.std.specs.Prelude.{ℕ, List, [], ◌∷◌, ◌++◌, flat_map}
use Rattle.acq_core.specs.declared.merchant.Merchant.{Merchant}
use Rattle.acq_core.specs.declared.terminal.Terminal.{Terminal}
use Rattle.acq_core.specs.Tables.{Tables}
use Rattle.acq_book.specs.Lookups.{terminals_at, totals_at}
use Rattle.acq_statement.specs.declared.claim.Claim.{Claim}
use Rattle.acq_statement.specs.declared.days.Days.{Days}
use Rattle.acq_statement.specs.declared.piece.Piece.{Piece}
use Rattle.acq_statement.specs.declared.piece.Piece.TheVariants.{Title, Terminals, Total, Claims}
use Rattle.acq_statement.specs.declared.piece.Piece.TheVariants.{Owed}
use Rattle.acq_statement.specs.declared.statement_form.StatementForm.{StatementForm}
use Rattle.acq_statement.specs.Claims.{claims_at, claims_of, claims_on}
use Rattle.acq_statement.specs.Currencies.{currencies_of, currency_sums}
use Rattle.acq_statement.specs.Lines.{title_line, terminal_line, total_line, claim_lines, owed_line}
use Rattle.acq_statement.specs.Lines.{currency_lines, statement_header}
use Rattle.acq_statement.specs.Span.{asked_merchants, days_of}
use Rattle.acq_statement.specs.TerminalTotals.{day_postings, sums_at_terminals, terminals_of}
use Rattle.acq_statement.specs.declared.terminal_sums.TerminalSums.{TerminalSums}

-- with the sums of a merchant's terminals on a day, and with its claims
module _ (form : StatementForm) (sums : List TerminalSums) (claims : List Claim) (t : Tables) where
  -- a piece of the block of a merchant's day
  abbrev pub piece_text : Merchant → ℕ → Piece → List ℕ
  piece_text merchant day Title = title_line form merchant day
  piece_text merchant day Terminals = flat_map (terminal_line form merchant day) sums
  piece_text merchant day Total = total_line form merchant day (totals_at t merchant.id day)
  piece_text merchant day Claims =
      flat_map (claim_lines form merchant day) (claims_on day claims)
  piece_text merchant day Owed = owed_line form (totals_at t merchant.id day)

  -- the block
  abbrev pub block_of : Merchant → ℕ → List ℕ
  block_of merchant day =
      flat_map (piece_text merchant day) (Title ∷ Terminals ∷ Total ∷ Claims ∷ Owed ∷ [])

-- a header, what is written of each merchant, and the sums of each currency on these days
abbrev pub statement_with : StatementForm → (Merchant → List ℕ) → Tables → List ℕ → List Merchant
    → List ℕ
statement_with form written t days merchants =
    statement_header form ++ flat_map written merchants
    ++ flat_map (λ currency. currency_lines form currency
    (currency_sums t days merchants currency)) (currencies_of merchants)

-- with the terminals and the claims of a merchant
module _ (form : StatementForm) (terminals : List Terminal) (claims : List Claim) (t : Tables) where
  abbrev pub block_text : Merchant → ℕ → List ℕ
  block_text merchant day =
      block_of form (sums_at_terminals (day_postings t merchant.id day) terminals) claims t
      merchant day

-- with those of all merchants
module _ (form : StatementForm) (terminals : List Terminal) (claims : List Claim) (t : Tables) where
  -- the blocks of a merchant's days
  abbrev pub merchant_blocks : List ℕ → Merchant → List ℕ
  merchant_blocks days merchant =
      flat_map
      (block_text form (terminals_of merchant.id terminals) (claims_of merchant.id claims) t
      merchant) days

  -- the statement of these merchants and days
  abbrev pub statement_on : List ℕ → List Merchant → List ℕ
  statement_on days merchants = statement_with form (merchant_blocks days) t days merchants

abbrev pub statement_text : Tables → List (List ℕ) → Days → StatementForm → List ℕ
statement_text t asked days form =
    statement_on form (terminals_at t) (claims_at t asked days) t (days_of days)
    (asked_merchants t asked)
