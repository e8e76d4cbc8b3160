use Rattle.std.proofs.Common.{◌∙◌, ap}
use Rattle.std.specs.List.{slice_get}
use Rattle.std.proofs.lemmas.Result.{IfOk-from_err, IfOk-weaker, err_from_is_err_and}
use Rattle.sqlite.specs.Held.{state}
use Rattle.acq_sql_reads.proofs.Leaves.{looks_in_vain, looks_once}
use Rattle.acq_sql_reads.proofs.Failing.{memory_excused, ranges_apart, range_shown}
use Rattle.acq_sql_reads.proofs.RangeReads.{first_read}
use Rattle.acq_sql_reads.proofs.ranges.first_low.Goals as goal

pub returns-in_err-rows-clause-answers : goal.returns-in_err-rows-clause-answers
returns-in_err-rows-clause-answers g c clean t holds apart =
    IfOk-from_err c.from_residual.result _ c.from_residual.ensures.0

pub returns-in_err-rows-clause-looks : goal.returns-in_err-rows-clause-looks
returns-in_err-rows-clause-looks g c =
    looks_in_vain c.in_err-rows.ensures.looks c.from_residual.result c.from_residual.ensures.0

pub returns-in_err-rows-clause-fails : goal.returns-in_err-rows-clause-fails
returns-in_err-rows-clause-fails g c clean t at past free =
    let p = err_from_is_err_and c.from_residual.result c.from_residual.ensures.1 in
    rw (p.1, p.2) (c.in_err-rows.ensures.fails clean t at past free)

pub returns-in-Some-clause-answers : goal.returns-in-Some-clause-answers
returns-in-Some-clause-answers g c clean t holds apart =
    IfOk-weaker c.low_of.result _ _
    (λ n read. first_read c.args.number t.ranges c.in_ok-rows.rows.items c.in-Some.row.now n apart
    holds.rows.rising (c.in_ok-rows.ensures.answers clean t holds apart)
    (c.in-Some.ensures.value ∙ ap (λ l. slice_get l 0) c.deref.ensures.value) read)
    c.low_of.ensures.value

pub returns-in-Some-clause-looks : goal.returns-in-Some-clause-looks
returns-in-Some-clause-looks g c = looks_once c.in_ok-rows.ensures.looks _

pub returns-in-Some-clause-fails : goal.returns-in-Some-clause-fails
returns-in-Some-clause-fails g c clean t at past free =
    memory_excused (state g.S.Store c.args.conn.now) (state g.S.Store c.nearest_rows.new.conn)
    c.low_of.result
    (c.low_of.ensures.fails
    (range_shown t past c.args.number c.in_ok-rows.rows.items c.in-Some.row.now
    (c.in_ok-rows.ensures.answers clean t at.holds (ranges_apart t past))
    (c.in-Some.ensures.value ∙ ap (λ l. slice_get l 0) c.deref.ensures.value)))

pub returns-clause-looks : goal.returns-clause-looks
returns-clause-looks g c = looks_once c.in_ok-rows.ensures.looks _
