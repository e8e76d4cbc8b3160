use Rattle.sqlite.specs.Held.{state}
use Rattle.acq_book.specs.Lookups.{pending_at}
use Rattle.acq_sql_reads.proofs.TextLemmas.{pending_asks}
use Rattle.acq_sql_reads.proofs.CountReads.{pending_found}
use Rattle.acq_sql_reads.proofs.Failing.{pending_fails}
use Rattle.acq_sql_reads.proofs.counts.pending.Goals as goal

pub returns-clause-answers : goal.returns-clause-answers
returns-clause-answers g c clean t holds =
    let found = pending_found c.args.day (state g.S.Store c.args.conn.now)
    (state g.S.Store c.count_by.new.conn) t holds.runs holds.rows in
    c.count_by.ensures.answers clean (pending_at t c.args.day) (rw c.day_value.ensures found)

pub returns-clause-looks : goal.returns-clause-looks
returns-clause-looks g c = c.count_by.ensures.looks pending_asks.begins

pub returns-clause-fails : goal.returns-clause-fails
returns-clause-fails g c clean t at past free =
    let found = pending_found c.args.day (state g.S.Store c.args.conn.now)
    (state g.S.Store c.count_by.new.conn) t at.holds.runs at.holds.rows in
    let told = c.count_by.ensures.fails clean (pending_at t c.args.day)
    (rw c.day_value.ensures found) past.1 in
    pending_fails (state g.S.Store c.args.conn.now) (state g.S.Store c.count_by.new.conn)
    c.count_by.result t at free c.args.day (rw c.day_value.ensures at told)
