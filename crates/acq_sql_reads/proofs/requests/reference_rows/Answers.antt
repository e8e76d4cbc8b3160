use Rattle.std.proofs.Common.{[], ◌∷◌}
use Rattle.std.proofs.lemmas.Result.{IfOk-weaker}
use Rattle.sqlite_value.specs.declared.value.Value.TheVariants.{Text}
use Rattle.sqlite_value.specs.Value.{owned}
use Rattle.sqlite.specs.Values.{bound_value}
use Rattle.sqlite.specs.Held.{state}
use Rattle.acq_sql_reads.specs.Texts.{reference_text}
use Rattle.acq_sql_reads.proofs.TextLemmas.{reference_asks}
use Rattle.acq_sql_reads.proofs.Leaves.{looks}
use Rattle.acq_sql_reads.proofs.RequestReads.{reference_found}
use Rattle.acq_sql_reads.proofs.Failing.{reference_fails}
use Rattle.acq_sql_reads.proofs.requests.reference_rows.Goals as goal

pub returns-clause-answers : goal.returns-clause-answers
returns-clause-answers g c clean t holds past =
    IfOk-weaker c.query_all.result _ _
    (λ rows shown. reference_found c.args.merchant c.args.reference
    (state g.S.Store c.args.conn.now) (state g.S.Store c.query_all.new.self)
    t holds.runs rows.items holds.rows past
    (rw (c.to_bytes-merchant.ensures.value, c.reference_value.ensures) at shown))
    (c.query_all.ensures.ok clean)

pub returns-clause-looks : goal.returns-clause-looks
returns-clause-looks g c =
    looks reference_text
    (Text c.to_bytes-merchant.result ∷ bound_value (owned c.reference_value.result) ∷ [])
    (state g.S.Store c.args.conn.now) (state g.S.Store c.query_all.new.self)
    reference_asks.begins (λ rows. rows.items) c.query_all.result c.query_all.ensures.ok
    c.query_all.ensures.err c.query_all.ensures.mode
    c.query_all.ensures.survives

pub returns-clause-fails : goal.returns-clause-fails
returns-clause-fails g c =
    reference_fails (state g.S.Store c.args.conn.now) (state g.S.Store c.query_all.new.self)
    c.query_all.result c.args.merchant c.args.reference
    (rw (c.to_bytes-merchant.ensures.value, c.reference_value.ensures) at c.query_all.ensures.err)
