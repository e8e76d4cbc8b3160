use Rattle.std.proofs.Common.{[], ◌∷◌}
use Rattle.std.proofs.lemmas.Result.{IfOk-weaker}
use Rattle.sqlite_value.specs.Value.{owned}
use Rattle.sqlite.specs.Values.{bound_value}
use Rattle.sqlite.specs.Held.{state}
use Rattle.acq_sql_reads.specs.Texts.{nearest_text}
use Rattle.acq_sql_reads.proofs.TextLemmas.{nearest_asks}
use Rattle.acq_sql_reads.proofs.Leaves.{looks}
use Rattle.acq_sql_reads.proofs.RangeReads.{nearest_found}
use Rattle.acq_sql_reads.proofs.Failing.{nearest_fails}
use Rattle.acq_sql_reads.proofs.ranges.nearest_rows.Goals as goal

pub returns-clause-answers : goal.returns-clause-answers
returns-clause-answers g c clean t holds apart =
    IfOk-weaker c.query_all.result _ _
    (λ rows shown. nearest_found c.args.prefix (state g.S.Store c.args.conn.now)
    (state g.S.Store c.query_all.new.self)
    t holds.runs rows.items holds.rows apart
    (rw c.short_value.ensures at shown))
    (c.query_all.ensures.ok clean)

pub returns-clause-looks : goal.returns-clause-looks
returns-clause-looks g c =
    looks nearest_text (bound_value (owned c.short_value.result) ∷ [])
    (state g.S.Store c.args.conn.now) (state g.S.Store c.query_all.new.self)
    nearest_asks.begins (λ rows. rows.items) c.query_all.result c.query_all.ensures.ok
    c.query_all.ensures.err c.query_all.ensures.mode
    c.query_all.ensures.survives

pub returns-clause-fails : goal.returns-clause-fails
returns-clause-fails g c =
    nearest_fails (state g.S.Store c.args.conn.now) (state g.S.Store c.query_all.new.self)
    c.query_all.result c.args.prefix
    (rw c.short_value.ensures at c.query_all.ensures.err)
