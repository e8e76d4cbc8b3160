use Rattle.std.proofs.Common.{[], ◌∷◌}
use Rattle.std.proofs.lemmas.Result.{IfOk-weaker}
use Rattle.sqlite_value.specs.declared.value.Value.TheVariants.{Text}
use Rattle.sqlite.specs.Held.{state}
use Rattle.acq_sql_reads.specs.Texts.{greatest_text}
use Rattle.acq_sql_reads.proofs.TextLemmas.{greatest_asks}
use Rattle.acq_sql_reads.proofs.Leaves.{looks}
use Rattle.acq_sql_reads.proofs.GreatestReads.{greatest_found}
use Rattle.acq_sql_reads.proofs.Failing.{greatest_fails}
use Rattle.acq_sql_reads.proofs.counts.greatest_rows.Goals as goal

pub returns-clause-answers : goal.returns-clause-answers
returns-clause-answers g c clean t holds past enrolled is =
    IfOk-weaker c.query_all.result _ _
    (λ rows shown. greatest_found c.args.merchant (state g.S.Store c.args.conn.now)
    (state g.S.Store c.query_all.new.self) t holds.runs rows.items enrolled holds.rows past is
    (rw (c.to_bytes-merchant.ensures.value) at shown))
    (c.query_all.ensures.ok clean)

pub returns-clause-looks : goal.returns-clause-looks
returns-clause-looks g c =
    looks greatest_text (Text c.to_bytes-merchant.result ∷ [])
    (state g.S.Store c.args.conn.now) (state g.S.Store c.query_all.new.self)
    greatest_asks.begins (λ rows. rows.items) c.query_all.result c.query_all.ensures.ok
    c.query_all.ensures.err c.query_all.ensures.mode
    c.query_all.ensures.survives

pub returns-clause-fails : goal.returns-clause-fails
returns-clause-fails g c =
    greatest_fails (state g.S.Store c.args.conn.now) (state g.S.Store c.query_all.new.self)
    c.query_all.result c.to_bytes-merchant.result c.query_all.ensures.err
