use Rattle.std.proofs.Common.{[], ◌∷◌}
use Rattle.std.proofs.lemmas.Result.{IfOk-weaker}
use Rattle.sqlite_value.specs.declared.value.Value.TheVariants.{Text}
use Rattle.sqlite.specs.Held.{state}
use Rattle.acq_sql_reads.specs.Texts.{request_text}
use Rattle.acq_sql_reads.proofs.TextLemmas.{request_asks}
use Rattle.acq_sql_reads.proofs.Leaves.{looks}
use Rattle.acq_sql_reads.proofs.RequestReads.{request_found}
use Rattle.acq_sql_reads.proofs.Failing.{request_fails}
use Rattle.acq_sql_reads.proofs.requests.request_rows.Goals as goal

pub returns-clause-answers : goal.returns-clause-answers
returns-clause-answers g c clean t holds past =
    IfOk-weaker c.query_all.result _ _
    (λ rows shown. request_found c.args.key (state g.S.Store c.args.conn.now)
    (state g.S.Store c.query_all.new.self)
    t holds.runs rows.items holds.rows past
    (rw (
      c.to_bytes-merchant.ensures.value,
      c.to_bytes-terminal.ensures.value,
      c.digits-kind.ensures,
      c.to_bytes-trace.ensures.value,
      c.to_bytes-stamp.ensures.value,
    ) at shown))
    (c.query_all.ensures.ok clean)

pub returns-clause-looks : goal.returns-clause-looks
returns-clause-looks g c =
    looks request_text
    (Text c.to_bytes-merchant.result ∷ Text c.to_bytes-terminal.result ∷ Text c.digits-kind.result
    ∷ Text c.to_bytes-trace.result ∷ Text c.to_bytes-stamp.result ∷ [])
    (state g.S.Store c.args.conn.now) (state g.S.Store c.query_all.new.self)
    request_asks.begins (λ rows. rows.items) c.query_all.result c.query_all.ensures.ok
    c.query_all.ensures.err c.query_all.ensures.mode
    c.query_all.ensures.survives

pub returns-clause-fails : goal.returns-clause-fails
returns-clause-fails g c =
    request_fails (state g.S.Store c.args.conn.now) (state g.S.Store c.query_all.new.self)
    c.query_all.result c.args.key
    (rw (
      c.to_bytes-merchant.ensures.value,
      c.to_bytes-terminal.ensures.value,
      c.digits-kind.ensures,
      c.to_bytes-trace.ensures.value,
      c.to_bytes-stamp.ensures.value,
    ) at c.query_all.ensures.err)
