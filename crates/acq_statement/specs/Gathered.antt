-- How far the statement of a merchant's day is gathered: sums of the first postings of the day, and
-- claims of the first requests.
use Rattle.std.specs.Prelude.{◌≡◌, ◌⊎◌, ◌==◌, ◌&&◌, ◌≤◌, ℕ, nat_le, nat_lt, Bool, true, false, List}
use Rattle.std.specs.Prelude.{[], ◌∷◌, filter, find, length, take, unwrap_or}
use Rattle.std.specs.List.{AllByRecursion, filter_map}
use Rattle.std.specs.Str.{bytes_eq}
use Rattle.acq_message.specs.declared.service.Service.{Service}
use Rattle.acq_message.specs.declared.service.Service.TheVariants.{Reconciliation}
use Rattle.acq_core.specs.declared.posting.Posting.{Posting}
use Rattle.acq_core.specs.declared.request.Request.{Request}
use Rattle.acq_core.specs.declared.status.Status.{Status}
use Rattle.acq_core.specs.declared.status.Status.TheVariants.{Reconciled, Refused}
use Rattle.acq_core.specs.Tables.{Tables, count}
use Rattle.acq_statement.specs.declared.days.Days.{Days}
use Rattle.acq_statement.specs.declared.gathering.Gathering.{Gathering}
use Rattle.acq_statement.specs.declared.statement_form.StatementForm.{StatementForm}
use Rattle.acq_statement.specs.declared.terminal_sums.TerminalSums.{TerminalSums}
use Rattle.acq_statement.specs.Claims.{claim_in, claims_at}
use Rattle.acq_statement.specs.TerminalTotals.{day_postings, sums_at_terminal}

-- it is of this merchant's day, in this form
abbrev pub Asks : List ℕ → ℕ → StatementForm → Gathering → Type 0
Asks merchant day form gathering =
    (gathering.merchant ≡ merchant) × (gathering.day ≡ day) × (gathering.form ≡ form)

-- a day alone
abbrev pub only : ℕ → Days
only day = record { first = day; last = day }

-- ---- postings

-- the sums of a terminal among these; none of what posted nothing
abbrev pub sums_in : List TerminalSums → List ℕ → TerminalSums
sums_in sums terminal =
    unwrap_or (find (λ at. bytes_eq at.id terminal) sums) (sums_at_terminal [] terminal)

-- a posting of a merchant's day
abbrev pub is_of_day : List ℕ → ℕ → ℕ × Posting → Bool
is_of_day merchant day row = bytes_eq row.1.merchant merchant && (row.1.day == day)

-- those with numbers up to one, as they came
abbrev pub postings_up_to : Tables → List ℕ → (day number : ℕ) → List (ℕ × Posting)
postings_up_to t merchant day number =
    filter (λ row. is_of_day merchant day row && (nat_lt 0 row.0 && nat_le row.0 number))
    t.postings

-- ---- requests

abbrev pub is_reconciliation : Service → Bool
is_reconciliation Reconciliation = true
is_reconciliation service = false

abbrev pub is_reconciled : Status → Bool
is_reconciled Reconciled = true
is_reconciled status = false

-- where a reconciliation stands, whatever comes
abbrev pub is_final : Status → Bool
is_final Reconciled = true
is_final Refused = true
is_final status = false

-- what claims is a reconciliation, and a reconciliation was made or refused
abbrev pub IsSettled : Request → Type 0
IsSettled row =
    (is_reconciled row.status ≡ true → is_reconciliation row.key.service ≡ true)
    × (is_reconciliation row.key.service ≡ true → is_final row.status ≡ true)

-- ---- both

-- It has the sums of the day's postings with numbers up to one, than which no later one is less;
-- and the claims of the first requests, those that it has looked at, which stay as they are.
pub record IsGathered (t : Tables) (gathering : Gathering) : Type 0 where
  pub within :
      gathering.number ≤ count (is_of_day gathering.merchant gathering.day) t.postings
  pub sums : (terminal : List ℕ) →
      sums_in gathering.sums.items terminal
      ≡ sums_at_terminal
      (postings_up_to t gathering.merchant gathering.day gathering.number) terminal
  pub looked : gathering.looked ≤ length t.requests
  pub claims :
      gathering.claims.items
      ≡ filter_map (claim_in (gathering.merchant ∷ []) (only gathering.day))
      (take gathering.looked t.requests)
  pub stays : (gathering.looked ≡ 0) ⊎ AllByRecursion IsSettled t.requests

-- it has the sums of all postings of the day
abbrev pub HasSums : Tables → Gathering → Type 0
HasSums t gathering =
    (terminal : List ℕ) →
    sums_in gathering.sums.items terminal
    ≡ sums_at_terminal (day_postings t gathering.merchant gathering.day) terminal

-- and the claims of all requests
abbrev pub HasClaims : Tables → Gathering → Type 0
HasClaims t gathering =
    gathering.claims.items ≡ claims_at t (gathering.merchant ∷ []) (only gathering.day)
