use Rattle.std.proofs.Common.{[], ◌∷◌}
use Rattle.std.proofs.lemmas.Result.{IfOk-weaker}
use Rattle.sqlite_value.specs.Value.{owned}
use Rattle.sqlite.specs.Values.{bound_value}
use Rattle.sqlite.specs.Held.{state}
use Rattle.acq_sql_reads.specs.Texts.{overlapping_text}
use Rattle.acq_sql_reads.proofs.TextLemmas.{overlapping_asks}
use Rattle.acq_sql_reads.proofs.Leaves.{looks}
use Rattle.acq_sql_reads.proofs.RangeReads.{overlapping_found}
use Rattle.acq_sql_reads.proofs.Failing.{overlapping_fails}
use Rattle.acq_sql_reads.proofs.ranges.overlapping_rows.Goals as goal

pub returns-clause-answers : goal.returns-clause-answers
returns-clause-answers g c clean t holds reach =
    IfOk-weaker c.query_all.result _ _
    (λ rows shown. overlapping_found c.args.first c.args.low c.args.high
    (state g.S.Store c.args.conn.now) (state g.S.Store c.query_all.new.self)
    t holds.runs rows.items holds.rows reach
    (rw (c.short_value.ensures, c.short_value-2.ensures, c.short_value-3.ensures) at shown))
    (c.query_all.ensures.ok clean)

pub returns-clause-looks : goal.returns-clause-looks
returns-clause-looks g c =
    looks overlapping_text
    (bound_value (owned c.short_value.result) ∷ bound_value (owned c.short_value-2.result)
    ∷ bound_value (owned c.short_value-3.result) ∷ [])
    (state g.S.Store c.args.conn.now) (state g.S.Store c.query_all.new.self)
    overlapping_asks.begins (λ rows. rows.items) c.query_all.result c.query_all.ensures.ok
    c.query_all.ensures.err c.query_all.ensures.mode
    c.query_all.ensures.survives

pub returns-clause-fails : goal.returns-clause-fails
returns-clause-fails g c =
    overlapping_fails (state g.S.Store c.args.conn.now) (state g.S.Store c.query_all.new.self)
    c.query_all.result c.args.first c.args.low c.args.high
    (rw (c.short_value.ensures, c.short_value-2.ensures, c.short_value-3.ensures)
    at c.query_all.ensures.err)
