use Rattle.std.proofs.Common.{inl, inr, ◌∙◌}
use Rattle.std.proofs.lemmas.Result.{IfErr-weaker, IfOk-from_err, IfOk-weaker, err_from_is_err_and}
use Rattle.acq_sql_reads.proofs.Leaves.{looks_in_vain, looks_once}
use Rattle.acq_sql_reads.proofs.counts.count_by.Goals as goal

pub returns-in_err-rows-clause-answers : goal.returns-in_err-rows-clause-answers
returns-in_err-rows-clause-answers g c clean many shows =
    IfOk-from_err c.from_residual.result _ c.from_residual.ensures.0

pub returns-in_err-rows-clause-looks : goal.returns-in_err-rows-clause-looks
returns-in_err-rows-clause-looks g c begins =
    looks_in_vain (c.in_err-rows.ensures.looks begins) c.from_residual.result
    c.from_residual.ensures.0

pub returns-in_err-rows-clause-fails : goal.returns-in_err-rows-clause-fails
returns-in_err-rows-clause-fails g c clean many shows told =
    let p = err_from_is_err_and c.from_residual.result c.from_residual.ensures.1 in
    rw (p.1, p.2) (inr (c.in_err-rows.ensures.fails clean))

pub returns-clause-answers : goal.returns-clause-answers
returns-clause-answers g c clean many shows =
    IfOk-weaker c.count_of.result _ _
    (λ n is. is many (c.as_slice.ensures.value ∙ shows _ (c.in_ok-rows.ensures.shows clean)))
    c.count_of.ensures.value

pub returns-clause-looks : goal.returns-clause-looks
returns-clause-looks g c begins = looks_once (c.in_ok-rows.ensures.looks begins) _

pub returns-clause-fails : goal.returns-clause-fails
returns-clause-fails g c clean many shows told =
    IfErr-weaker c.count_of.result _ _ (λ e memory. inl memory)
    (c.count_of.ensures.fails many
    (c.as_slice.ensures.value ∙ shows _ (c.in_ok-rows.ensures.shows clean)) told)
