use Rattle.std.proofs.lemmas.Result.{IfOk-from_err}
use Rattle.acq_sql_reads.proofs.Leaves.{looks_in_vain, looks_once}
use Rattle.std.proofs.Common.{◌∙◌, ap, inl}
use Rattle.std.specs.List.{slice_get}
use Rattle.std.proofs.lemmas.Result.{err_from_is_err_and}
use Rattle.acq_sql_reads.proofs.Failing.{overlap_shown}
use Rattle.acq_sql_reads.proofs.ranges.overlapping_from.Goals as goal

pub returns-in_err-rows-clause-answers : goal.returns-in_err-rows-clause-answers
returns-in_err-rows-clause-answers g c clean t holds reach =
    IfOk-from_err c.from_residual.result _ c.from_residual.ensures.0

pub returns-in_err-rows-clause-looks : goal.returns-in_err-rows-clause-looks
returns-in_err-rows-clause-looks g c =
    looks_in_vain c.in_err-rows.ensures.looks c.from_residual.result c.from_residual.ensures.0

pub returns-in_err-read_range-in-Some-clause-answers :
    goal.returns-in_err-read_range-in-Some-clause-answers
returns-in_err-read_range-in-Some-clause-answers g c clean t holds reach =
    IfOk-from_err c.from_residual-in_err-read_range-in-Some.result _
    c.from_residual-in_err-read_range-in-Some.ensures.0

pub returns-in_err-read_range-in-Some-clause-looks :
    goal.returns-in_err-read_range-in-Some-clause-looks
returns-in_err-read_range-in-Some-clause-looks g c =
    looks_once c.in_ok-rows.ensures.looks _

pub returns-in-Some-clause-looks : goal.returns-in-Some-clause-looks
returns-in-Some-clause-looks g c = looks_once c.in_ok-rows.ensures.looks _

pub returns-clause-looks : goal.returns-clause-looks
returns-clause-looks g c = looks_once c.in_ok-rows.ensures.looks _

pub returns-in_err-rows-clause-fails : goal.returns-in_err-rows-clause-fails
returns-in_err-rows-clause-fails g c clean t at past free =
    let p = err_from_is_err_and c.from_residual.result c.from_residual.ensures.1 in
    rw (p.1, p.2) (c.in_err-rows.ensures.fails clean t at past.0 free)

pub returns-in_err-read_range-in-Some-clause-fails :
    goal.returns-in_err-read_range-in-Some-clause-fails
returns-in_err-read_range-in-Some-clause-fails g c clean t at past free =
    let p = err_from_is_err_and c.from_residual-in_err-read_range-in-Some.result
    c.from_residual-in_err-read_range-in-Some.ensures.1 in
    rw (p.1, p.2) (inl (c.in_err-read_range-in-Some.ensures.fails
    (overlap_shown t past.0 c.args.low c.args.high c.in_ok-rows.rows.items c.in-Some.row.now
    (c.in_ok-rows.ensures.answers clean t at.holds past.1)
    (c.in-Some.ensures.value ∙ ap (λ l. slice_get l 0) c.deref.ensures.value))))
