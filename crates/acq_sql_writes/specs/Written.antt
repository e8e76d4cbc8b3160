-- What a write inside a transaction does, and what each write makes of the tables.
use Rattle.std.specs.Prelude.{◌≡◌, ◌⊎◌, ℕ, ◌<◌, ◌^◌, true, List, [], ◌∷◌, ◌++◌, Option}
use Rattle.std.specs.Prelude.{IfSome, Result, Ok, Err, OnOk, OnErr, IsTrue}
use Rattle.sqlite_value.specs.Order.{Row}
use Rattle.sqlite.specs.declared.error.Error.{Error}
use Rattle.sqlite.specs.Effect.{Database}
use Rattle.sqlite.specs.State.{State, HasCleanDisk, KeepsCommit, Shows, Survives}
use Rattle.sqlite.specs.State.{IsUnchanged, IsRolledBack}
use Rattle.sqlite.specs.State.{Executes as Runs, ExecutesInside as RunsInside}
use Rattle.row_lemmas.specs.Created.{IsBlank}
use Rattle.iso_codec.specs.Message.{IsoMessage}
use Rattle.card_no.specs.declared.range.Range.{Range}
use Rattle.day_totals.specs.Totals.{DayTotals}
use Rattle.acq_message.specs.declared.request_key.RequestKey.{RequestKey}
use Rattle.acq_core.specs.declared.merchant.Merchant.{Merchant}
use Rattle.acq_core.specs.declared.terminal.Terminal.{Terminal}
use Rattle.acq_core.specs.declared.request.Request.{Request}
use Rattle.acq_core.specs.declared.status.Status.{Status}
use Rattle.acq_core.specs.declared.remains.Remains.{Remains}
use Rattle.acq_core.specs.declared.posting.Posting.{Posting}
use Rattle.acq_core.specs.declared.reconciliation.Reconciliation.{Reconciliation}
use Rattle.acq_core.specs.declared.change.Change.TheVariants as change
use Rattle.acq_core.specs.Tables.{Tables, Opening, new_tables, after, with_changed}
use Rattle.acq_core.specs.Tables.{answered_row, followed_row}
use Rattle.acq_sql_rows.specs.declared.form.Form.{Form}
use Rattle.acq_sql_rows.specs.Schema.{IsBookSchema, book_schema}
use Rattle.acq_sql_rows.specs.Tallies.{Tally, Running, FitsTally, plus, tally_in, raised}
use Rattle.acq_sql_rows.specs.Relation.{HoldsRows}

-- ---- one write

-- a call that succeeded leaves its transaction open, and shows what it made
abbrev pub StaysInside : {T : Type 0} → State → State → Result T Error → Type 0
StaysInside old new result =
    HasCleanDisk new → IsTrue old.in_transaction
    → OnOk result (Shows old new new.now old.committed true)

-- one that failed changed nothing, or ended its transaction
abbrev pub ChangesNothing : {T : Type 0} → State → State → Result T Error → Type 0
ChangesNothing old new result =
    HasCleanDisk new → IsTrue old.in_transaction
    → OnErr result (IsUnchanged old new ⊎ IsRolledBack old new)

-- what was committed stays as it was
abbrev pub KeepsCommitted : State → State → Type 0
KeepsCommitted old new = HasCleanDisk new → IsTrue old.in_transaction → KeepsCommit old new

-- a stop leaves nothing of it
abbrev pub CommitsNothing : State → State → Type 0
CommitsNothing old new = Survives old new (λ _. ⊥)

-- nor of a write in a transaction over the book's tables
abbrev pub CommitsNothingInside : State → State → Type 0
CommitsNothingInside old new =
    Survives old new (λ _. IsBookSchema old.now.schema → IsTrue old.in_transaction → ⊥)

-- a statement was executed, whatever the number of rows that it changed
abbrev pub Executes : List ℕ → Row → State → State → Result (Unit {0}) Error → Type 0
Executes sql params old new (Ok done) = (count : ℕ) × Runs sql params old new (Ok count)
Executes sql params old new (Err e) = Runs sql params old new (Err e)

-- the same in a transaction that ends where it is dropped
abbrev pub ExecutesInside : List ℕ → Row → State → State → Result (Unit {0}) Error → Type 0
ExecutesInside sql params old new (Ok done) =
    (count : ℕ) × RunsInside 0 sql params old new (Ok count)
ExecutesInside sql params old new (Err e) = RunsInside 0 sql params old new (Err e)

-- A write in a transaction over the book's tables commits nothing, and one that succeeded leads
-- from the database before it to the one after it so. One that failed leaves nothing of itself.
pub record WritesInside {T : Type 0} (old new : State) (result : Result T Error)
    (Leads : Database → Database → Type 0) : Type 0 where
  pub leads : HasCleanDisk new → IsTrue old.in_transaction → OnOk result (Leads old.now new.now)
  pub inside : IsBookSchema old.now.schema → StaysInside old new result
  pub undone : ChangesNothing old new result
  pub stop : CommitsNothingInside old new

-- the same of any write in a transaction that ends where it is dropped, whatever the tables are
pub record WritesGuarded {T : Type 0} (old new : State) (result : Result T Error)
    (Leads : Database → Database → Type 0) : Type 0 where
  pub leads : HasCleanDisk new → IsTrue old.in_transaction → OnOk result (Leads old.now new.now)
  pub inside : StaysInside old new result
  pub undone : ChangesNothing old new result
  pub kept : KeepsCommitted old new
  pub stop : CommitsNothing old new

-- the tables are changed so, and no running total
abbrev pub Changes : (Tables → Tables) → Database → Database → Type 0
Changes changed db next =
    (t : Tables) (runs : List Running)
    → HoldsRows db t runs → HoldsRows next (changed t) runs

-- this is added to the running totals of a merchant and day, where there is room
abbrev pub Raises : List ℕ → ℕ → Tally → Database → Database → Type 0
Raises merchant day more db next =
    (t : Tables) (runs : List Running) → HoldsRows db t runs
    → FitsTally (plus (tally_in runs merchant day) more)
    → HoldsRows next t (raised merchant day more runs)

-- a book begins, where the tables had no rows
abbrev pub BeginsBook : Opening → Database → Database → Type 0
BeginsBook opening db next =
    (form : Form) → IsBlank (book_schema form) db → HoldsRows next (new_tables opening) []

-- ---- what each makes of the tables

abbrev pub with_merchant : Merchant → Tables → Tables
with_merchant merchant t = after t (change.AddMerchant merchant)

abbrev pub with_terminal : Terminal → Tables → Tables
with_terminal terminal t = after t (change.AddTerminal terminal)

abbrev pub with_added_range : Range → Tables → Tables
with_added_range range t = after t (change.AddRange range)

abbrev pub with_dropped_range : ℕ → ℕ → Tables → Tables
with_dropped_range low high t = after t (change.DropRange low high)

abbrev pub on_day : ℕ → Tables → Tables
on_day day t = after t (change.SetDay day)

abbrev pub with_request : Request → Tables → Tables
with_request row t = after t (change.AddRequest row)

abbrev pub with_answer : RequestKey → Status → IsoMessage → Option ℕ → Tables → Tables
with_answer key status reply hold_end t =
    record t { requests = with_changed key (answered_row status reply hold_end) t.requests }

abbrev pub with_remains : RequestKey → Remains → Tables → Tables
with_remains key remains t =
    record t { requests = with_changed key (followed_row remains) t.requests }

abbrev pub with_posting : ℕ → Posting → Tables → Tables
with_posting number p t = record t { postings = t.postings ++ (number, p) ∷ [] }

abbrev pub with_reconciliation : ℕ → Reconciliation → Tables → Tables
with_reconciliation number r t =
    record t { reconciliations = t.reconciliations ++ (number, r) ∷ [] }

-- a column can keep the end of a hold
abbrev pub IsShortEnd : Option ℕ → Type 0
IsShortEnd hold_end = IfSome hold_end (λ n. n < 2 ^ 63)

-- so many messages that count, and these totals
abbrev pub tally_from : ℕ → DayTotals → Tally
tally_from used totals = record { used = used; totals = totals }
