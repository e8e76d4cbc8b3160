-- What a look-up says of the tables, and what it leaves.
use Rattle.std.specs.Prelude.{◌≡◌, ◌⊎◌, ◌≤◌, ℕ, ◌+◌, ◌-◌, ◌==◌, Bool, true, false, ◌&&◌, List, []}
use Rattle.std.specs.Prelude.{◌∷◌, map, filter, length, Result, IfOk, IsTrue, Option, Some, None}
use Rattle.std.specs.Prelude.{IfSome, if◌then◌else◌}
use Rattle.std.specs.List.{range_with_len}
use Rattle.std.specs.Str.{bytes_eq}
use Rattle.sqlite_value.specs.declared.value.Value.TheVariants.{Text}
use Rattle.sqlite_value.specs.Order.{Row}
use Rattle.sqlite_rules.specs.Lists.{Has}
use Rattle.sqlite.specs.declared.error.Error.{Error}
use Rattle.sqlite.specs.State.{State, HasCleanDisk, IsUnchanged, IsRolledBack, Survives}
use Rattle.row_lemmas.specs.Values.{number, number_or_null}
use Rattle.card_no.specs.declared.range.Range.{Range}
use Rattle.card_no.specs.Ranges.{holds_prefix, range_of_prefix}
use Rattle.day_totals.specs.Totals.{DayTotals}
use Rattle.acq_message.specs.Numbers.{is_reference}
use Rattle.acq_core.specs.declared.reconciliation.Reconciliation.{Reconciliation}
use Rattle.acq_core.specs.Tables.{Tables}
use Rattle.acq_book.specs.Order.{last_of}
use Rattle.acq_sql_rows.specs.Rows.{tally_row, bit_of}
use Rattle.acq_sql_rows.specs.Tallies.{Tally, no_tally}
use Rattle.acq_sql_rows.specs.Relation.{Holds}

-- where it succeeded, the answer is what the look-up gives of the tables
abbrev pub Answers : {T : Type 0} → State → State → Result T Error → (Tables → T) → Type 0
Answers old new result look =
    HasCleanDisk new → (t : Tables) → Holds old.now t → IfOk result (λ x. x ≡ look t)

-- the same, of tables of which this is so
abbrev pub AnswersWhere : {T : Type 0} →
    State → State → Result T Error → (Tables → Type 0) → (Tables → T) → Type 0
AnswersWhere old new result fits look =
    HasCleanDisk new → (t : Tables) → Holds old.now t → fits t → IfOk result (λ x. x ≡ look t)

-- A look-up leaves an open connection as it was, or where it failed at most rolled back, and
-- outside a transaction if it was so. A stop leaves what it might before.
pub record LooksOnly (old new : State) (succeeded : Bool) : Type 0 where
  pub same : HasCleanDisk new → succeeded ≡ true → IsUnchanged old new
  pub undone : HasCleanDisk new → IsTrue new.is_open →
      IsUnchanged old new ⊎ IsRolledBack old new
  pub settled : old.in_transaction ≡ false → new.in_transaction ≡ false
  pub stop : Survives old new (λ _. ⊥)

-- a row was found
abbrev pub is_any : List Row → Bool
is_any [] = false
is_any (row ∷ rows) = true

-- the running totals of a day: one row, or none where nothing came
abbrev pub ShowsTally : Tally → List Row → Type 0
ShowsTally tally rows = ((rows ≡ []) × (tally ≡ no_tally)) ⊎ (rows ≡ tally_row tally ∷ [])

-- what a row of running totals has beside what was used
abbrev pub totals_row : DayTotals → Row
totals_row t =
    number t.credits.count ∷ number t.credit_reversals.count ∷ number t.debits.count
    ∷ number t.debit_reversals.count ∷ number t.credits.amount ∷ number t.credit_reversals.amount
    ∷ number t.debits.amount ∷ number t.debit_reversals.amount ∷ []

-- ---- ranges

-- what a look-up shows of a range
abbrev pub range_cells : Range → Row
range_cells r = number r.low ∷ number r.high ∷ Text r.issuer ∷ number r.hold_days ∷ []

-- the range, if the prefix lies in it
abbrev pub if_holds : ℕ → Range → Option Range
if_holds prefix r = if holds_prefix prefix r then Some r else None

-- the nearest range that begins at or below a prefix, if it reaches so far, is the prefix's
abbrev pub IsNearest : ℕ → List Range → List Row → Type 0
IsNearest prefix ranges rows =
    ((rows ≡ []) × (range_of_prefix ranges prefix ≡ None))
    ⊎ ((r : Range) × (rows ≡ range_cells r ∷ [])
    × (range_of_prefix ranges prefix ≡ if_holds prefix r) × Has ranges r × (r.low ≤ prefix))

-- of the ranges, each that reaches up to a number begins at this low or above it
abbrev pub ReachFrom : ℕ → List Range → ℕ → Type 0
ReachFrom number ranges first = (r : Range) → Has ranges r → number ≤ r.high → first ≤ r.low

-- ---- reconciliations

-- the merchant's reconciliations of a day, in the order in which they came
abbrev pub reconciliations_of :
    List ℕ → ℕ → List (ℕ × Reconciliation) → List (ℕ × Reconciliation)
reconciliations_of m day rows =
    filter (λ row. bytes_eq row.1.merchant m && (row.1.day == day)) rows

-- the last of them, with its number
abbrev pub last_numbered_at : Tables → List ℕ → ℕ → Option (ℕ × Reconciliation)
last_numbered_at t m day = last_of (reconciliations_of m day t.reconciliations)

-- its number, or 0 where there is none
abbrev pub number_or_zero : Option (ℕ × Reconciliation) → ℕ
number_or_zero None = 0
number_or_zero (Some row) = row.0

-- rows whose numbers count up from this one
abbrev pub CountsUpFrom : ℕ → List (ℕ × Reconciliation) → Type 0
CountsUpFrom n rows = map (λ row. row.0) rows ≡ range_with_len n (length rows)

-- the numbers of each merchant's reconciliations of a day count up from 1
abbrev pub HasNumberedReconciliations : Tables → Type 0
HasNumberedReconciliations t =
    (m : List ℕ) (day : ℕ) → CountsUpFrom 1 (reconciliations_of m day t.reconciliations)

-- what a look-up shows of one
abbrev pub balance_cells : ℕ × Reconciliation → Row
balance_cells r = number r.0 ∷ number (bit_of r.1.in_balance) ∷ []

-- ---- references

-- how many references there are from the first up to the greatest, if one was given
abbrev pub count_up_to : ℕ → Option ℕ → ℕ
count_up_to first None = 0
count_up_to first (Some greatest) = greatest + 1 - first

-- the greatest of so many references, if one was given, is one from the first on
pub record TellsCount (first many : ℕ) (o : Option ℕ) : Type 0 where
  pub counted : many ≡ count_up_to first o
  pub given : IfSome o (λ n. (first ≤ n) × (is_reference n ≡ true))

-- of so many references from the first on, the row of the greatest; none where there is no request
abbrev pub ShowsGreatest : ℕ → ℕ → List Row → Type 0
ShowsGreatest first many rows =
    ((rows ≡ []) × (many ≡ 0))
    ⊎ ((o : Option ℕ) × (rows ≡ (number_or_null o ∷ []) ∷ []) × TellsCount first many o)
