use Rattle.std.proofs.Common.{ap, sym, ◌∙◌}
use Rattle.std.proofs.lemmas.Result.{IfOk-weaker}
use Rattle.sqlite_value.specs.Order.{column}
use Rattle.acq_sql_reads.proofs.Failing.{count_shown, count_told, none_first, one_first}
use Rattle.acq_sql_reads.proofs.counts.count_of.Goals as goal

pub returns-in-Some-clause-value : goal.returns-in-Some-clause-value
returns-in-Some-clause-value c =
    IfOk-weaker c.count_at.result _ _
    (λ n told many are. count_told n many (sym told.0 ∙ ap (λ l. column l 0)
    (one_first c.args.rows.now c.in-Some.row.now _ are c.in-Some.ensures.value)) told.1)
    c.count_at.ensures.value

pub returns-in-Some-clause-fails : goal.returns-in-Some-clause-fails
returns-in-Some-clause-fails c many are told =
    c.count_at.ensures.fails many
    (count_shown many c.args.rows.now c.in-Some.row.now are c.in-Some.ensures.value told) told

pub returns-in-None-clause-fails : goal.returns-in-None-clause-fails
returns-in-None-clause-fails c many are told =
    absurd (none_first c.args.rows.now _ are c.in-None.ensures.value)
