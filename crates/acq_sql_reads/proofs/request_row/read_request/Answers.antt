use Rattle.std.proofs.Common.{ap, arith}
use Rattle.std.proofs.lemmas.Result.{err_from_is_err_and}
use Rattle.sqlite_value.specs.Order.{column}
use Rattle.acq_sql_rows.specs.Rows.{bit_of, leg_number}
use Rattle.acq_sql_reads.proofs.RequestRows.{request_is, bit_fits, days_fit}
use Rattle.acq_sql_reads.proofs.RequestRows.{is_wide, key_shown, leg_fits}
use Rattle.acq_sql_reads.proofs.request_row.read_request.Goals as goal

pub returns-clause-value : goal.returns-clause-value
returns-clause-value c len =
    let reply = c.in_ok-reply.ensures.value in (
      reply.0,
      request_is c.args.row.now
          (record {
            key = c.in_ok-key.key;
            essence = c.in_ok-essence.essence;
            day = c.in_ok-day.day;
            status = c.in_ok-status.status;
            admitted = c.in_ok-admitted.admitted;
            reference = c.in_ok-reference.reference;
            follows = c.in_ok-follows.follows;
            amount = c.in_ok-amount.amount;
            leg = c.in_ok-leg.leg;
            card = c.in_ok-card.card;
            acquirer = c.in_ok-acquirer.acquirer;
            hold_days = c.in_ok-hold_days.hold_days;
            hold_end = c.in_ok-hold_end.hold_end;
            reply = c.in_ok-reply.reply;
          })
          reply.0 len c.in_ok-key.ensures.value c.in_ok-essence.ensures.value
          c.in_ok-day.ensures.value c.in_ok-status.ensures.value c.in_ok-admitted.ensures.value
          c.in_ok-reference.ensures.value c.in_ok-follows.ensures.value
          c.in_ok-amount.ensures.value c.in_ok-leg.ensures.value c.in_ok-card.ensures.value
          c.in_ok-acquirer.ensures.value
          c.in_ok-hold_days.ensures.value c.in_ok-hold_end.ensures.value reply.1,
      reply.2,
    )

pub returns-in_err-key-clause-fails : goal.returns-in_err-key-clause-fails
returns-in_err-key-clause-fails c (r, cells, fits) =
    let p = err_from_is_err_and c.from_residual.result c.from_residual.ensures.1 in
    rw (p.1, p.2)
    (absurd (c.in_err-key.ensures.fails r.key (key_shown c.args.row.now r cells.0 cells.1)
    fits.key))

pub returns-in_err-day-clause-fails : goal.returns-in_err-day-clause-fails
returns-in_err-day-clause-fails c (r, cells, fits) =
    let p = err_from_is_err_and c.from_residual-in_err-day.result c.from_residual-in_err-day.ensures.1 in
    rw (p.1, p.2)
    (c.in_err-day.ensures.fails r.day (ap (λ l. column l 6) cells.1) fits.day)

pub returns-in_err-status-clause-fails : goal.returns-in_err-status-clause-fails
returns-in_err-status-clause-fails c (r, cells, fits) =
    let p = err_from_is_err_and c.from_residual-in_err-status.result c.from_residual-in_err-status.ensures.1 in
    rw (p.1, p.2)
    (c.in_err-status.ensures.fails (r.status, ap (λ l. column l 7) cells.1))

pub returns-in_err-admitted-clause-fails : goal.returns-in_err-admitted-clause-fails
returns-in_err-admitted-clause-fails c (r, cells, fits) =
    let p = err_from_is_err_and c.from_residual-in_err-admitted.result c.from_residual-in_err-admitted.ensures.1 in
    rw (p.1, p.2)
    (c.in_err-admitted.ensures.fails (bit_of r.admitted) (ap (λ l. column l 8) cells.1)
    (bit_fits r.admitted))

pub returns-in_err-reference-clause-fails : goal.returns-in_err-reference-clause-fails
returns-in_err-reference-clause-fails c (r, cells, fits) =
    let p = err_from_is_err_and c.from_residual-in_err-reference.result c.from_residual-in_err-reference.ensures.1 in
    rw (p.1, p.2)
    (c.in_err-reference.ensures.fails (is_wide c.args.row.now r cells.0 cells.1 9 (omega arith))
    r.reference (ap (λ l. column l 9) cells.1) fits.reference)

pub returns-in_err-follows-clause-fails : goal.returns-in_err-follows-clause-fails
returns-in_err-follows-clause-fails c (r, cells, fits) =
    let p = err_from_is_err_and c.from_residual-in_err-follows.result c.from_residual-in_err-follows.ensures.1 in
    rw (p.1, p.2)
    (c.in_err-follows.ensures.fails (is_wide c.args.row.now r cells.0 cells.1 10 (omega arith))
    r.follows (ap (λ l. column l 10) cells.1) fits.follows)

pub returns-in_err-amount-clause-fails : goal.returns-in_err-amount-clause-fails
returns-in_err-amount-clause-fails c (r, cells, fits) =
    let p = err_from_is_err_and c.from_residual-in_err-amount.result c.from_residual-in_err-amount.ensures.1 in
    rw (p.1, p.2)
    (c.in_err-amount.ensures.fails r.amount (ap (λ l. column l 11) cells.1) fits.amount)

pub returns-in_err-leg-clause-fails : goal.returns-in_err-leg-clause-fails
returns-in_err-leg-clause-fails c (r, cells, fits) =
    let p = err_from_is_err_and c.from_residual-in_err-leg.result c.from_residual-in_err-leg.ensures.1 in
    rw (p.1, p.2)
    (c.in_err-leg.ensures.fails (leg_number r.leg) (ap (λ l. column l 12) cells.1) (leg_fits r.leg))

pub returns-in_err-hold_days-clause-fails : goal.returns-in_err-hold_days-clause-fails
returns-in_err-hold_days-clause-fails c (r, cells, fits) =
    let p = err_from_is_err_and c.from_residual-in_err-hold_days.result c.from_residual-in_err-hold_days.ensures.1 in
    rw (p.1, p.2)
    (c.in_err-hold_days.ensures.fails (is_wide c.args.row.now r cells.0 cells.1 15 (omega arith))
    r.hold_days (ap (λ l. column l 15) cells.1) (days_fit r.hold_days fits.hold_days))

pub returns-in_err-hold_end-clause-fails : goal.returns-in_err-hold_end-clause-fails
returns-in_err-hold_end-clause-fails c (r, cells, fits) =
    let p = err_from_is_err_and c.from_residual-in_err-hold_end.result c.from_residual-in_err-hold_end.ensures.1 in
    rw (p.1, p.2)
    (c.in_err-hold_end.ensures.fails (is_wide c.args.row.now r cells.0 cells.1 16 (omega arith))
    r.hold_end (ap (λ l. column l 16) cells.1))

pub returns-in_err-essence-clause-fails : goal.returns-in_err-essence-clause-fails
returns-in_err-essence-clause-fails c (r, cells, fits) =
    let p = err_from_is_err_and c.from_residual-in_err-essence.result c.from_residual-in_err-essence.ensures.1 in
    rw (p.1, p.2)
    (c.in_err-essence.ensures.fails r.essence (ap (λ l. column l 5) cells.1))

pub returns-in_err-card-clause-fails : goal.returns-in_err-card-clause-fails
returns-in_err-card-clause-fails c (r, cells, fits) =
    let p = err_from_is_err_and c.from_residual-in_err-card.result c.from_residual-in_err-card.ensures.1 in
    rw (p.1, p.2)
    (c.in_err-card.ensures.fails (is_wide c.args.row.now r cells.0 cells.1 13 (omega arith))
    r.card (ap (λ l. column l 13) cells.1))

pub returns-in_err-acquirer-clause-fails : goal.returns-in_err-acquirer-clause-fails
returns-in_err-acquirer-clause-fails c (r, cells, fits) =
    let p = err_from_is_err_and c.from_residual-in_err-acquirer.result c.from_residual-in_err-acquirer.ensures.1 in
    rw (p.1, p.2)
    (c.in_err-acquirer.ensures.fails (is_wide c.args.row.now r cells.0 cells.1 14 (omega arith))
    r.acquirer (ap (λ l. column l 14) cells.1))

pub returns-in_err-reply-clause-fails : goal.returns-in_err-reply-clause-fails
returns-in_err-reply-clause-fails c (r, cells, fits) =
    let p = err_from_is_err_and c.from_residual-in_err-reply.result c.from_residual-in_err-reply.ensures.1 in
    rw (p.1, p.2)
    (c.in_err-reply.ensures.fails cells.0 r.reply (ap (λ l. column l 17) cells.1) cells.2)
