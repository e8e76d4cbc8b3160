use Rattle.std.proofs.lemmas.Result.{IfOk-from_err}
use Rattle.acq_sql_reads.proofs.Leaves.{looks_in_vain, looks_once}
use Rattle.std.proofs.Common.{◌∙◌, ap, inl}
use Rattle.std.specs.List.{slice_get}
use Rattle.std.proofs.lemmas.Result.{err_from_is_err_and}
use Rattle.acq_sql_reads.proofs.Failing.{ranges_apart, range_shown}
use Rattle.acq_sql_reads.proofs.ranges.range.Goals as goal

pub returns-in_err-rows-clause-answers : goal.returns-in_err-rows-clause-answers
returns-in_err-rows-clause-answers g c clean t holds apart =
    IfOk-from_err c.from_residual.result _ c.from_residual.ensures.0

pub returns-in_err-rows-clause-looks : goal.returns-in_err-rows-clause-looks
returns-in_err-rows-clause-looks g c =
    looks_in_vain c.in_err-rows.ensures.looks c.from_residual.result c.from_residual.ensures.0

pub returns-in_default-clause-looks : goal.returns-in_default-clause-looks
returns-in_default-clause-looks g c = looks_once c.in_ok-rows.ensures.looks _

pub returns-in_err-range-clause-answers : goal.returns-in_err-range-clause-answers
returns-in_err-range-clause-answers g c clean t holds apart =
    IfOk-from_err c.from_residual-in_err-range.result _ c.from_residual-in_err-range.ensures.0

pub returns-in_err-range-clause-looks : goal.returns-in_err-range-clause-looks
returns-in_err-range-clause-looks g c = looks_once c.in_ok-rows.ensures.looks _

pub returns-then-holds-clause-looks : goal.returns-then-holds-clause-looks
returns-then-holds-clause-looks g c = looks_once c.in_ok-rows.ensures.looks _

pub returns-clause-looks : goal.returns-clause-looks
returns-clause-looks g c = looks_once c.in_ok-rows.ensures.looks _

pub returns-in_err-rows-clause-fails : goal.returns-in_err-rows-clause-fails
returns-in_err-rows-clause-fails g c clean t at past free =
    let p = err_from_is_err_and c.from_residual.result c.from_residual.ensures.1 in
    rw (p.1, p.2) (c.in_err-rows.ensures.fails clean t at past free)

pub returns-in_err-range-clause-fails : goal.returns-in_err-range-clause-fails
returns-in_err-range-clause-fails g c clean t at past free =
    let p = err_from_is_err_and c.from_residual-in_err-range.result
    c.from_residual-in_err-range.ensures.1 in
    rw (p.1, p.2) (inl (c.in_err-range.ensures.fails
    (range_shown t past c.number.result c.in_ok-rows.rows.items c.in-Some.row.now
    (c.in_ok-rows.ensures.answers clean t at.holds (ranges_apart t past))
    (c.in-Some.ensures.value ∙ ap (λ l. slice_get l 0) c.deref.ensures.value))))
