-- What a book recalls of its tables.
use Rattle.std.specs.Prelude.{◌≡◌, ℕ, List, Option, None, IfSome, true, false}
use Rattle.std.specs.List.{AllByRecursion}
use Rattle.acq_core.specs.declared.request.Request.{Request}
use Rattle.acq_core.specs.Tables.{Tables, is_pending, used_in}
use Rattle.acq_sql.specs.declared.memo.Memo.{Memo}
use Rattle.acq_sql.specs.declared.memo.used_on.UsedOn.{UsedOn}
use Rattle.acq_sql.specs.declared.memo.may_wait.MayWait.{MayWait}
use Rattle.acq_sql.specs.declared.memo.may_wait.MayWait.TheVariants as may_wait

-- no other of these requests waits
abbrev pub WaitsNoOther : MayWait → List Request → Type 0
WaitsNoOther may_wait.Any rows = Unit {0}
WaitsNoOther (may_wait.Only key) rows =
    AllByRecursion (λ row. is_pending row.status ≡ true → row.key ≡ key) rows
WaitsNoOther may_wait.None rows = AllByRecursion (λ row. is_pending row.status ≡ false) rows

-- so many of them count against the limit of their day
abbrev pub CountsUsed : Option UsedOn → List Request → Type 0
CountsUsed used rows = IfSome used (λ u. u.count ≡ used_in rows u.day)

-- the book has this row
abbrev pub HasRow : Option (ℕ × ℕ) → Tables → Type 0
HasRow row t = IfSome row (λ row. row ≡ (t.limit, t.day))

-- it is so of the tables
pub record Recalls (memo : Memo) (t : Tables) : Type 0 where
  pub row : HasRow memo.row t
  pub waiting : WaitsNoOther memo.waiting t.requests
  pub used : CountsUsed memo.used t.requests

-- a book that was just made or opened recalls nothing
abbrev pub nothing_recalled : Memo
nothing_recalled = record { row = None; waiting = may_wait.Any; used = None }
