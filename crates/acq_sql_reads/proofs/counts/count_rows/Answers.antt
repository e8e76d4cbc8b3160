use Rattle.sqlite.specs.Values.{bound}
use Rattle.sqlite.specs.Held.{state}
use Rattle.acq_sql_reads.proofs.Leaves.{looks}
use Rattle.acq_sql_reads.proofs.counts.count_rows.Goals as goal

pub returns-clause-looks : goal.returns-clause-looks
returns-clause-looks g c begins =
    looks c.args.sql.now (bound c.args.params.now) (state g.S.Store c.args.conn.now)
    (state g.S.Store c.query_all.new.self) begins (λ rows. rows.items) c.query_all.result
    c.query_all.ensures.ok c.query_all.ensures.err c.query_all.ensures.mode
    c.query_all.ensures.survives
