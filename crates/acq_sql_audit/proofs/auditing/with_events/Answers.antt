use Rattle.acq_sql_audit.proofs.MadeBooks.{ends_in}
use Rattle.acq_sql_audit.proofs.auditing.with_events.Goals as goal

pub returns-clause-holds : goal.returns-clause-holds
returns-clause-holds g c clean =
    (ends_in g.M.Store c.in-Ok.book c.in_ok-book.book
    (record { limit = c.args.limit; first_day = c.args.first_day }) c.args.events.now
    c.in-Ok.ensures.new c.in-Ok.ensures.fresh c.in_ok-book.ensures.was_honest
    c.in_ok-book.ensures.stays c.in_ok-book.ensures.tables c.into_connection.result
    c.into_connection.ensures.connection clean).at.holds

pub returns-clause-past : goal.returns-clause-past
returns-clause-past g c clean =
    (ends_in g.M.Store c.in-Ok.book c.in_ok-book.book
    (record { limit = c.args.limit; first_day = c.args.first_day }) c.args.events.now
    c.in-Ok.ensures.new c.in-Ok.ensures.fresh c.in_ok-book.ensures.was_honest
    c.in_ok-book.ensures.stays c.in_ok-book.ensures.tables c.into_connection.result
    c.into_connection.ensures.connection clean).past
