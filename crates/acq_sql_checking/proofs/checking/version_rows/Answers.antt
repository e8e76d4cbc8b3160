use Rattle.std.proofs.Common.{[]}
use Rattle.std.proofs.lemmas.Result.{IfOk-weaker}
use Rattle.sqlite.specs.Held.{state}
use Rattle.acq_sql_reads.proofs.Leaves.{looks}
use Rattle.acq_sql_checking.specs.Checked.{version_text}
use Rattle.acq_sql_checking.proofs.Versions.{version_asks, version_fails, versions_shown}
use Rattle.acq_sql_checking.proofs.checking.version_rows.Goals as goal

pub returns-clause-shows : goal.returns-clause-shows
returns-clause-shows g c clean has =
    IfOk-weaker c.query_all.result _ _
    (λ rows shown. versions_shown (state g.S.Store c.args.conn.now)
    (state g.S.Store c.query_all.new.self) rows.items
    has shown)
    (c.query_all.ensures.ok clean)

pub returns-clause-looks : goal.returns-clause-looks
returns-clause-looks g c =
    looks version_text [] (state g.S.Store c.args.conn.now) (state g.S.Store c.query_all.new.self)
    version_asks.begins
    (λ rows. rows.items) c.query_all.result c.query_all.ensures.ok c.query_all.ensures.err
    c.query_all.ensures.mode
    c.query_all.ensures.survives

pub returns-clause-fails : goal.returns-clause-fails
returns-clause-fails g c has =
    version_fails (state g.S.Store c.args.conn.now) (state g.S.Store c.query_all.new.self)
    c.query_all.result has c.query_all.ensures.err
