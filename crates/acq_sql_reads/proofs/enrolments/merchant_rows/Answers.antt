use Rattle.std.proofs.Common.{[], ◌∷◌}
use Rattle.std.proofs.lemmas.Result.{IfOk-weaker}
use Rattle.sqlite_value.specs.declared.value.Value.TheVariants.{Text}
use Rattle.sqlite.specs.Held.{state}
use Rattle.acq_sql_reads.specs.Texts.{merchant_text}
use Rattle.acq_sql_reads.proofs.TextLemmas.{merchant_asks}
use Rattle.acq_sql_reads.proofs.Leaves.{looks}
use Rattle.acq_sql_reads.proofs.Failing.{merchant_fails}
use Rattle.acq_sql_reads.proofs.KeyReads.{merchant_found}
use Rattle.acq_sql_reads.proofs.enrolments.merchant_rows.Goals as goal

pub returns-clause-answers : goal.returns-clause-answers
returns-clause-answers g c clean t holds =
    IfOk-weaker c.query_all.result _ _
    (λ rows shown. merchant_found c.args.id (state g.S.Store c.args.conn.now)
    (state g.S.Store c.query_all.new.self)
    t holds.runs rows.items holds.rows (rw (c.to_bytes-id.ensures.value) at shown))
    (c.query_all.ensures.ok clean)

pub returns-clause-looks : goal.returns-clause-looks
returns-clause-looks g c =
    looks merchant_text (Text c.to_bytes-id.result ∷ [])
    (state g.S.Store c.args.conn.now) (state g.S.Store c.query_all.new.self)
    merchant_asks.begins (λ rows. rows.items) c.query_all.result c.query_all.ensures.ok
    c.query_all.ensures.err c.query_all.ensures.mode
    c.query_all.ensures.survives

pub returns-clause-fails : goal.returns-clause-fails
returns-clause-fails g c =
    merchant_fails (state g.S.Store c.args.conn.now) (state g.S.Store c.query_all.new.self)
    c.query_all.result c.to_bytes-id.result c.query_all.ensures.err
