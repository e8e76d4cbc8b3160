use Rattle.sqlite.specs.Held.{state}
use Rattle.acq_book.specs.Lookups.{range_count_at}
use Rattle.acq_sql_reads.proofs.TextLemmas.{range_count_asks}
use Rattle.acq_sql_reads.proofs.CountReads.{ranges_found}
use Rattle.acq_sql_reads.proofs.Failing.{range_count_fails}
use Rattle.acq_sql_reads.proofs.counts.range_count.Goals as goal

pub returns-clause-answers : goal.returns-clause-answers
returns-clause-answers g c clean t holds =
    let found = ranges_found (state g.S.Store c.args.conn.now)
    (state g.S.Store c.count_by.new.conn) t holds.runs holds.rows in
    c.count_by.ensures.answers clean (range_count_at t) found

pub returns-clause-looks : goal.returns-clause-looks
returns-clause-looks g c = c.count_by.ensures.looks range_count_asks.begins

pub returns-clause-fails : goal.returns-clause-fails
returns-clause-fails g c clean t at past free =
    let found = ranges_found (state g.S.Store c.args.conn.now)
    (state g.S.Store c.count_by.new.conn) t at.holds.runs at.holds.rows in
    range_count_fails (state g.S.Store c.args.conn.now) (state g.S.Store c.count_by.new.conn)
    c.count_by.result t at free (c.count_by.ensures.fails clean (range_count_at t) found past.1)
