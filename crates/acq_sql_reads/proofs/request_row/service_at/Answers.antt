use Rattle.std.proofs.Common.{◌∙◌, ap, sym, arith}
use Rattle.std.proofs.lemmas.Result.{IfOk-weaker}
use Rattle.sqlite_value.specs.declared.value.Value.TheVariants.{Text}
use Rattle.acq_sql_reads.proofs.RequestRows.{none_named, service_read, service_taken}
use Rattle.acq_sql_reads.proofs.request_row.service_at.Goals as goal

pub returns-clause-value : goal.returns-clause-value
returns-clause-value c =
    IfOk-weaker c.read.result _ _
    (λ s is. c.in_ok-text.ensures.value
    ∙ ap Text (service_read c.in_ok-text.text.now s c.in-len3.len_at_least c.in-len3.len_below
    (sym c.of.ensures ∙ is)))
    c.read.ensures.value

pub returns-clause-fails : goal.returns-clause-fails
returns-clause-fails c =
    service_taken _ c.in_ok-text.text.now c.of.result c.read.result c.in_ok-text.ensures.value
    c.of.ensures c.read.ensures.fault

pub returns-in_default-clause-fails : goal.returns-in_default-clause-fails
returns-in_default-clause-fails c =
    none_named _ c.in_ok-text.text.now c.in_ok-text.ensures.value (λ three. omega arith)

pub returns-in_default-2-clause-fails : goal.returns-in_default-2-clause-fails
returns-in_default-2-clause-fails c =
    none_named _ c.in_ok-text.text.now c.in_ok-text.ensures.value (λ three. omega arith)
