-- each part is what the tables have, and where a look-up failed, so did all
use Rattle.std.proofs.Common.{◌≡◌, ◌∙◌, Bool, ℕ, ap}
use Rattle.std.specs.Prelude.{option_and_then}
use Rattle.day_totals.specs.Totals.{DayTotals}
use Rattle.acq_message.specs.Elements.{or_empty}
use Rattle.acq_core.specs.declared.wanted.Wanted.{Wanted}
use Rattle.acq_core.specs.Known.{holds_if, totals_if, used_if}
use Rattle.acq_core.specs.Tables.{Tables}
use Rattle.acq_book.specs.Lookups.{has_terminal_at, referred_at, totals_at, used_at}
use Rattle.acq_sql.proofs.BookGives.{and_then, failed_then, put_together}
use Rattle.acq_sql.proofs.sql_book.SqlBook.look_up_of_merchant.Goals as goal

abbrev IsTerminal : Wanted → Tables → Bool → Type 0
IsTerminal w t has =
    has ≡ holds_if (has_terminal_at t (or_empty w.merchant))
    (option_and_then (λ id. w.terminal) w.merchant)

abbrev IsUsed : Wanted → Tables → ℕ → Type 0
IsUsed w t n =
    n ≡ used_if (used_at t (or_empty w.merchant)) (option_and_then (λ id. w.used_day) w.merchant)

abbrev AreTotals : Wanted → Tables → DayTotals → Type 0
AreTotals w t totals =
    totals ≡ totals_if (totals_at t (or_empty w.merchant))
    (option_and_then (λ id. w.totals_day) w.merchant)

pub returns-in_err-has_terminal : goal.returns-in_err-has_terminal
returns-in_err-has_terminal g c =
    failed_then g.S.Store c.in_err-has_terminal.field-0.0
    c.from_residual-in_err-has_terminal.result c.from_residual-in_err-has_terminal.ensures
    c.in_ok-found.ensures c.in_err-has_terminal.ensures

pub returns-in_err-used : goal.returns-in_err-used
returns-in_err-used g c =
    failed_then g.S.Store c.in_err-used.field-0.0 c.from_residual-in_err-used.result
    c.from_residual-in_err-used.ensures
    (and_then g.S.Store (IsTerminal c.args.wanted.now) c.in_ok-found.ensures
    c.in_ok-has_terminal.ensures)
    c.in_err-used.ensures

pub returns-in_err-totals : goal.returns-in_err-totals
returns-in_err-totals g c =
    failed_then g.S.Store c.in_err-totals.field-0.0 c.from_residual-in_err-totals.result
    c.from_residual-in_err-totals.ensures
    (and_then g.S.Store (IsUsed c.args.wanted.now)
    (and_then g.S.Store (IsTerminal c.args.wanted.now) c.in_ok-found.ensures
    c.in_ok-has_terminal.ensures)
    c.in_ok-used.ensures)
    c.in_err-totals.ensures

pub returns-in_err-referred : goal.returns-in_err-referred
returns-in_err-referred g c =
    failed_then g.S.Store c.in_err-referred.field-0.0 c.from_residual-in_err-referred.result
    c.from_residual-in_err-referred.ensures
    (and_then g.S.Store (AreTotals c.args.wanted.now)
    (and_then g.S.Store (IsUsed c.args.wanted.now)
    (and_then g.S.Store (IsTerminal c.args.wanted.now) c.in_ok-found.ensures
    c.in_ok-has_terminal.ensures)
    c.in_ok-used.ensures)
    c.in_ok-totals.ensures)
    c.in_err-referred.ensures

pub returns : goal.returns
returns g c =
    let wanted = c.args.wanted.now in
    put_together g.S.Store tt
    (and_then g.S.Store (λ t row. row ≡ option_and_then (referred_at t (or_empty wanted.merchant))
    (option_and_then (λ id. wanted.reference) wanted.merchant))
    (and_then g.S.Store (AreTotals wanted)
    (and_then g.S.Store (IsUsed wanted)
    (and_then g.S.Store (IsTerminal wanted) c.in_ok-found.ensures c.in_ok-has_terminal.ensures)
    c.in_ok-used.ensures)
    c.in_ok-totals.ensures)
    c.in_ok-referred.ensures)
    (λ found is. record {
      today = is.today;
      limit = is.limit;
      merchant = ap (λ p. p.0) found.0.0.0.0;
      has_terminal = found.0.0.0.1;
      recorded = is.recorded;
      original = is.original;
      referred = c.put.ensures ∙ found.1;
      range = is.range;
      overlapped = is.overlapped;
      admitted = ap (λ p. p.1) found.0.0.0.0;
      used = found.0.0.1;
      totals = found.0.1;
    })
