use Rattle.std.proofs.Common.{◌∙◌, ap, inl}
use Rattle.std.specs.List.{slice_get}
use Rattle.acq_book.specs.Lookups.{request_at}
use Rattle.acq_sql_reads.proofs.RequestRows.{row_is}
use Rattle.std.proofs.lemmas.Result.{IfOk-from_err}
use Rattle.acq_sql_reads.proofs.Leaves.{looks_in_vain, looks_once}
use Rattle.std.proofs.lemmas.Result.{err_from_is_err_and}
use Rattle.acq_sql_reads.proofs.Failing.{request_shown}
use Rattle.acq_sql_reads.proofs.requests.request.Goals as goal

pub returns-in-Some-clause-answers : goal.returns-in-Some-clause-answers
returns-in-Some-clause-answers g c clean t holds past =
    row_is (request_at t c.args.key) c.in_ok-rows.rows.items c.in-Some.row.now
    c.in_ok-read_request-in-Some.field-0 (c.in_ok-rows.ensures.answers clean t holds past)
    (c.in-Some.ensures.value ∙ ap (λ l. slice_get l 0) c.deref.ensures.value)
    c.in_ok-read_request-in-Some.ensures.value

pub returns-in_err-rows-clause-answers : goal.returns-in_err-rows-clause-answers
returns-in_err-rows-clause-answers g c clean t holds past =
    IfOk-from_err c.from_residual.result _ c.from_residual.ensures.0

pub returns-in_err-rows-clause-looks : goal.returns-in_err-rows-clause-looks
returns-in_err-rows-clause-looks g c =
    looks_in_vain c.in_err-rows.ensures.looks c.from_residual.result c.from_residual.ensures.0

pub returns-in_err-read_request-in-Some-clause-answers :
    goal.returns-in_err-read_request-in-Some-clause-answers
returns-in_err-read_request-in-Some-clause-answers g c clean t holds past =
    IfOk-from_err c.from_residual-in_err-read_request-in-Some.result _
    c.from_residual-in_err-read_request-in-Some.ensures.0

pub returns-in_err-read_request-in-Some-clause-looks :
    goal.returns-in_err-read_request-in-Some-clause-looks
returns-in_err-read_request-in-Some-clause-looks g c =
    looks_once c.in_ok-rows.ensures.looks _

pub returns-in-Some-clause-looks : goal.returns-in-Some-clause-looks
returns-in-Some-clause-looks g c = looks_once c.in_ok-rows.ensures.looks _

pub returns-clause-looks : goal.returns-clause-looks
returns-clause-looks g c = looks_once c.in_ok-rows.ensures.looks _

pub returns-in_err-rows-clause-fails : goal.returns-in_err-rows-clause-fails
returns-in_err-rows-clause-fails g c clean t at past free =
    let p = err_from_is_err_and c.from_residual.result c.from_residual.ensures.1 in
    rw (p.1, p.2) (c.in_err-rows.ensures.fails clean t at past free)

pub returns-in_err-read_request-in-Some-clause-fails :
    goal.returns-in_err-read_request-in-Some-clause-fails
returns-in_err-read_request-in-Some-clause-fails g c clean t at past free =
    let p = err_from_is_err_and c.from_residual-in_err-read_request-in-Some.result
    c.from_residual-in_err-read_request-in-Some.ensures.1 in
    rw (p.1, p.2) (inl (c.in_err-read_request-in-Some.ensures.fails
    (request_shown t past c.args.key
    c.in_ok-rows.rows.items c.in-Some.row.now
    (c.in_ok-rows.ensures.answers clean t at.holds past)
    (c.in-Some.ensures.value ∙ ap (λ l. slice_get l 0) c.deref.ensures.value))))
