use Rattle.std.proofs.Common.{[], ◌∷◌}
use Rattle.std.proofs.lemmas.Result.{IfOk-weaker}
use Rattle.acq_sql_reads.proofs.RowReads.{totals_are}
use Rattle.acq_sql_reads.proofs.Failing.{parts_fit, made_of_parts}
use Rattle.acq_sql_reads.proofs.running.read_totals.Goals as goal

pub returns-clause-value : goal.returns-clause-value
returns-clause-value c =
    IfOk-weaker c.read.result _ _
    (λ x is len. totals_are c.args.row.now x c.in_ok-get.field-0 c.in_ok-get-2.field-0
    c.in_ok-get-3.field-0
    c.in_ok-get-4.field-0 c.in_ok-get-5.field-0 c.in_ok-get-6.field-0 c.in_ok-get-7.field-0
    c.in_ok-get-8.field-0 len
    c.in_ok-get.ensures.ok.1 c.in_ok-get-2.ensures.ok.1 c.in_ok-get-3.ensures.ok.1
    c.in_ok-get-4.ensures.ok.1
    c.in_ok-get-5.ensures.ok.1 c.in_ok-get-6.ensures.ok.1 c.in_ok-get-7.ensures.ok.1
    c.in_ok-get-8.ensures.ok.1
    (rw is at c.from_parts.ensures.counts) (rw is at c.from_parts.ensures.amounts))
    c.read.ensures.value

pub returns-clause-fails : goal.returns-clause-fails
returns-clause-fails c of =
    made_of_parts c.from_parts.result c.read.result
    (c.in_ok-get.field-0 ∷ c.in_ok-get-2.field-0 ∷ c.in_ok-get-3.field-0 ∷ c.in_ok-get-4.field-0
    ∷ [])
    (c.in_ok-get-5.field-0 ∷ c.in_ok-get-6.field-0 ∷ c.in_ok-get-7.field-0 ∷ c.in_ok-get-8.field-0
    ∷ [])
    c.read.ensures.fault
    c.from_parts.ensures.within
    (parts_fit c.args.row.now c.in_ok-get.field-0 c.in_ok-get-2.field-0 c.in_ok-get-3.field-0
    c.in_ok-get-4.field-0 c.in_ok-get-5.field-0 c.in_ok-get-6.field-0 c.in_ok-get-7.field-0
    c.in_ok-get-8.field-0 c.in_ok-get.ensures.ok.1 c.in_ok-get-2.ensures.ok.1
    c.in_ok-get-3.ensures.ok.1 c.in_ok-get-4.ensures.ok.1 c.in_ok-get-5.ensures.ok.1
    c.in_ok-get-6.ensures.ok.1 c.in_ok-get-7.ensures.ok.1 c.in_ok-get-8.ensures.ok.1 of)
