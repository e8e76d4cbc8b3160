use Rattle.std.proofs.Common.{◌∙◌, sym, subst}
use Rattle.std.proofs.lemmas.Result.{IfOk-from_err, IfOk-weaker, err_from_is_err_and}
use Rattle.acq_book.specs.Lookups.{admitted_at}
use Rattle.acq_sql_reads.specs.Looked.{TellsCount}
use Rattle.acq_sql_reads.proofs.Leaves.{looks_in_vain, looks_once}
use Rattle.acq_sql_reads.proofs.Failing.{admitted_fits, count_made}
use Rattle.acq_sql_reads.proofs.counts.admitted_of.Goals as goal

pub returns-in_err-greatest-clause-looks : goal.returns-in_err-greatest-clause-looks
returns-in_err-greatest-clause-looks g c =
    looks_in_vain c.in_err-greatest.ensures.looks c.from_residual.result c.from_residual.ensures.0

pub returns-in_err-greatest-clause-answers : goal.returns-in_err-greatest-clause-answers
returns-in_err-greatest-clause-answers g c clean t holds fits =
    IfOk-from_err c.from_residual.result _ c.from_residual.ensures.0

pub returns-clause-answers : goal.returns-clause-answers
returns-clause-answers g c clean t holds fits =
    let enrolled = fits.1 in
    let many = subst (λ n. TellsCount n (admitted_at t c.args.merchant) c.in_ok-greatest.greatest)
    enrolled.2
    (c.in_ok-greatest.ensures.answers clean t holds fits.0 enrolled.0 enrolled.1) in
    IfOk-weaker c.count_from.result _ _ (λ n is. is ∙ sym many.counted) c.count_from.ensures.value

pub returns-clause-looks : goal.returns-clause-looks
returns-clause-looks g c = looks_once c.in_ok-greatest.ensures.looks _

pub returns-in_err-greatest-clause-fails : goal.returns-in_err-greatest-clause-fails
returns-in_err-greatest-clause-fails g c clean t at fits free =
    let p = err_from_is_err_and c.from_residual.result c.from_residual.ensures.1 in
    rw (p.1, p.2) (c.in_err-greatest.ensures.fails clean t at
    (fits.0, (fits.1.0, fits.1.1)) free)

pub returns-clause-fails : goal.returns-clause-fails
returns-clause-fails g c clean t at fits free =
    let enrolled = fits.1 in
    let many = subst (λ n. TellsCount n (admitted_at t c.args.merchant) c.in_ok-greatest.greatest)
    enrolled.2
    (c.in_ok-greatest.ensures.answers clean t at.holds fits.0 enrolled.0 enrolled.1) in
    count_made c.count_from.result _ c.args.first (admitted_at t c.args.merchant)
    c.in_ok-greatest.greatest many (admitted_fits t fits.0 c.args.merchant)
    c.count_from.ensures.fails
