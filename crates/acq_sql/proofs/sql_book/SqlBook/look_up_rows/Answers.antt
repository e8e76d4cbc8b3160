-- each part is what the tables have, and where a look-up failed, so did all
use Rattle.std.proofs.Common.{◌≡◌, ◌∙◌}
use Rattle.std.specs.Prelude.{option_and_then}
use Rattle.acq_book.specs.Lookups.{overlapping_at, request_at}
use Rattle.acq_sql.proofs.BookGives.{and_then, failed_then, put_together}
use Rattle.acq_sql.proofs.sql_book.SqlBook.look_up_rows.Goals as goal

pub returns-in_err-overlapped : goal.returns-in_err-overlapped
returns-in_err-overlapped g c =
    failed_then g.S.Store c.in_err-overlapped.field-0.0 c.from_residual-in_err-overlapped.result
    c.from_residual-in_err-overlapped.ensures c.in_ok-range.ensures c.in_err-overlapped.ensures

pub returns-in_err-recorded : goal.returns-in_err-recorded
returns-in_err-recorded g c =
    failed_then g.S.Store c.in_err-recorded.field-0.0 c.from_residual-in_err-recorded.result
    c.from_residual-in_err-recorded.ensures
    (and_then g.S.Store
    (λ t x. x ≡ option_and_then (λ ends. overlapping_at t ends.0 ends.1) c.args.wanted.now.bounds)
    c.in_ok-range.ensures c.in_ok-overlapped.ensures) c.in_err-recorded.ensures

pub returns-in_err-original : goal.returns-in_err-original
returns-in_err-original g c =
    failed_then g.S.Store c.in_err-original.field-0.0 c.from_residual-in_err-original.result
    c.from_residual-in_err-original.ensures
    (and_then g.S.Store (λ t x. x ≡ option_and_then (request_at t) c.args.wanted.now.key)
    (and_then g.S.Store
    (λ t x. x ≡ option_and_then (λ ends. overlapping_at t ends.0 ends.1) c.args.wanted.now.bounds)
    c.in_ok-range.ensures c.in_ok-overlapped.ensures) c.in_ok-recorded.ensures)
    c.in_err-original.ensures

pub returns : goal.returns
returns g c =
    let wanted = c.args.wanted.now in
    put_together g.S.Store tt
    (and_then g.S.Store (λ t x. x ≡ option_and_then (request_at t) wanted.original)
    (and_then g.S.Store (λ t x. x ≡ option_and_then (request_at t) wanted.key)
    (and_then g.S.Store
    (λ t x. x ≡ option_and_then (λ ends. overlapping_at t ends.0 ends.1) wanted.bounds)
    c.in_ok-range.ensures c.in_ok-overlapped.ensures) c.in_ok-recorded.ensures)
    c.in_ok-original.ensures)
    (λ found is. record {
      today = is.today;
      limit = is.limit;
      merchant = is.merchant;
      has_terminal = is.has_terminal;
      recorded = c.put-3.ensures ∙ found.0.1;
      original = c.put-4.ensures ∙ found.1;
      referred = is.referred;
      range = c.put.ensures ∙ found.0.0.0;
      overlapped = c.put-2.ensures ∙ found.0.0.1;
      admitted = is.admitted;
      used = is.used;
      totals = is.totals;
    })
