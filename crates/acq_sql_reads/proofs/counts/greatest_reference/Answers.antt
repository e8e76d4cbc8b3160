use Rattle.std.proofs.Common.{◌∙◌, ◌<◌, ap, arith, length, sym, subst}
use Rattle.sqlite_value.specs.Order.{column}
use Rattle.std.specs.List.{slice_get}
use Rattle.std.proofs.lemmas.Result.{IfOk-from_err}
use Rattle.acq_book.specs.Lookups.{admitted_at}
use Rattle.acq_sql_reads.proofs.GreatestReads.{greatest_read, none_greatest}
use Rattle.acq_sql_reads.proofs.Leaves.{looks_in_vain, looks_once}
use Rattle.std.proofs.lemmas.Result.{err_from_is_err_and}
use Rattle.acq_sql_reads.proofs.Failing.{memory_excused, reference_shown}
use Rattle.sqlite.specs.Held.{state}
use Rattle.acq_sql_reads.proofs.counts.greatest_reference.Goals as goal

pub returns-in_err-rows-clause-answers : goal.returns-in_err-rows-clause-answers
returns-in_err-rows-clause-answers g c clean t holds past enrolled is =
    IfOk-from_err c.from_residual.result _ c.from_residual.ensures.0

pub returns-in_err-rows-clause-looks : goal.returns-in_err-rows-clause-looks
returns-in_err-rows-clause-looks g c =
    looks_in_vain c.in_err-rows.ensures.looks c.from_residual.result c.from_residual.ensures.0

pub returns-in-Some-clause-looks : goal.returns-in-Some-clause-looks
returns-in-Some-clause-looks g c = looks_once c.in_ok-rows.ensures.looks _

pub returns-clause-looks : goal.returns-clause-looks
returns-clause-looks g c = looks_once c.in_ok-rows.ensures.looks _

pub returns-in-Some-clause-answers : goal.returns-in-Some-clause-answers
returns-in-Some-clause-answers g c clean t holds past enrolled is =
    greatest_read enrolled.first_reference (admitted_at t c.args.merchant) c.in_ok-rows.rows.items
    c.in-Some.row.now c.reference_if_at.result
    (c.in_ok-rows.ensures.answers clean t holds past enrolled is)
    (c.in-Some.ensures.value ∙ ap (λ l. slice_get l 0) c.deref.ensures.value)
    c.reference_if_at.ensures.value

pub returns-clause-answers : goal.returns-clause-answers
returns-clause-answers g c clean t holds past enrolled is =
    let none = none_greatest enrolled.first_reference (admitted_at t c.args.merchant)
    c.in_ok-rows.rows.items (c.in_ok-rows.ensures.answers clean t holds past enrolled is)
    (c.in-None.ensures.value ∙ ap (λ l. slice_get l 0) c.deref.ensures.value) in
    record { counted = none; given = tt }

pub returns-in_err-rows-clause-fails : goal.returns-in_err-rows-clause-fails
returns-in_err-rows-clause-fails g c clean t at past free =
    let p = err_from_is_err_and c.from_residual.result c.from_residual.ensures.1 in
    rw (p.1, p.2) (c.in_err-rows.ensures.fails clean t at past.0 free)

pub returns-in-Some-clause-fails : goal.returns-in-Some-clause-fails
returns-in-Some-clause-fails g c clean t at past free =
    let m = past.1.0 in
    let shown = reference_shown m.first_reference (admitted_at t c.args.merchant)
    c.in_ok-rows.rows.items c.in-Some.row.now
    (c.in_ok-rows.ensures.answers clean t at.holds past.0 m past.1.1)
    (c.in-Some.ensures.value ∙ ap (λ l. slice_get l 0) c.deref.ensures.value) in
    let wide : 0 < length c.in-Some.row.now =
    subst (λ n. 0 < n) (sym (ap length shown.1)) (omega arith) in
    memory_excused (state g.S.Store c.args.conn.now) (state g.S.Store c.greatest_rows.new.conn)
    c.reference_if_at.result
    (c.reference_if_at.ensures.fails wide shown.0 (ap (λ l. column l 0) shown.1) shown.2)
