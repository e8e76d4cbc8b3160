use Rattle.std.proofs.Common.{◌≡◌, ◌∙◌, ap, sym}
use Rattle.std.proofs.lemmas.Result.{IfOk-weaker}
use Rattle.row_lemmas.specs.Values.{number}
use Rattle.acq_core.specs.Statuses.{status_number}
use Rattle.acq_sql_reads.proofs.RequestRows.{status_taken}
use Rattle.acq_sql_reads.proofs.request_row.status_at.Goals as goal

pub returns-clause-fails : goal.returns-clause-fails
returns-clause-fails c (s, is) =
    let same : c.in_ok-get.field-0 ≡ status_number s =
    let both = sym c.in_ok-get.ensures.ok.1 ∙ is in cc in
    status_taken c.in_ok-get.field-0 s c.from_number.result c.read.result same
    c.from_number.ensures.value c.read.ensures.fault

pub returns-clause-value : goal.returns-clause-value
returns-clause-value c =
    IfOk-weaker c.read.result _ _
    (λ s is. c.in_ok-get.ensures.ok.1 ∙ ap number (sym (rw is at c.from_number.ensures.number)))
    c.read.ensures.value
