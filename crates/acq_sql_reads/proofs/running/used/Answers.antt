use Rattle.std.proofs.Common.{◌∙◌, ap, refl, sym}
use Rattle.std.specs.List.{slice_get}
use Rattle.std.proofs.lemmas.Result.{IfOk-from_err, IfOk-weaker, err_from_is_err_and}
use Rattle.acq_sql_rows.specs.Tallies.{Tally, tally_of}
use Rattle.acq_sql_reads.proofs.RowReads.{none_tally, used_read}
use Rattle.sqlite.specs.Held.{state}
use Rattle.acq_sql_reads.proofs.Failing.{memory_excused, number_taken, used_fits}
use Rattle.acq_sql_reads.proofs.Failing.{used_shown}
use Rattle.acq_sql_reads.proofs.GreatestReads.{number_read}
use Rattle.acq_sql_reads.proofs.Leaves.{looks_in_vain, looks_once}
use Rattle.acq_sql_reads.proofs.running.used.Goals as goal

pub returns-in-Some-clause-answers : goal.returns-in-Some-clause-answers
returns-in-Some-clause-answers g c clean t holds =
    let rows = c.in_ok-rows.rows.items in
    IfOk-weaker c.used_count_at.result _ _
    (λ n read. used_read (tally_of t c.args.merchant c.args.day) rows c.in-Some.row.now n
    (c.in_ok-rows.ensures.answers clean t holds)
    (c.in-Some.ensures.value ∙ ap (λ l. slice_get l 0) c.deref.ensures.value)
    read)
    c.used_count_at.ensures.value

pub returns-in_err-rows-clause-fails : goal.returns-in_err-rows-clause-fails
returns-in_err-rows-clause-fails g c clean t at past free =
    let p = err_from_is_err_and c.from_residual.result c.from_residual.ensures.1 in
    rw (p.1, p.2) (c.in_err-rows.ensures.fails clean t at past free)

pub returns-in-Some-clause-fails : goal.returns-in-Some-clause-fails
returns-in-Some-clause-fails g c clean t at past free =
    memory_excused (state g.S.Store c.args.conn.now) (state g.S.Store c.running_rows.new.conn)
    c.used_count_at.result
    (c.used_count_at.ensures.fails (tally_of t c.args.merchant c.args.day).used
    (used_shown t c.args.merchant c.args.day c.in_ok-rows.rows.items c.in-Some.row.now
    (c.in_ok-rows.ensures.answers clean t at.holds)
    (c.in-Some.ensures.value ∙ ap (λ l. slice_get l 0) c.deref.ensures.value))
    (used_fits t past c.args.merchant c.args.day))

pub returns-in_err-rows-clause-answers : goal.returns-in_err-rows-clause-answers
returns-in_err-rows-clause-answers g c clean t holds =
    IfOk-from_err c.from_residual.result _ c.from_residual.ensures.0

pub returns-in_err-rows-clause-looks : goal.returns-in_err-rows-clause-looks
returns-in_err-rows-clause-looks g c =
    looks_in_vain c.in_err-rows.ensures.looks c.from_residual.result c.from_residual.ensures.0

pub returns-in-Some-clause-looks : goal.returns-in-Some-clause-looks
returns-in-Some-clause-looks g c = looks_once c.in_ok-rows.ensures.looks _

pub returns-clause-looks : goal.returns-clause-looks
returns-clause-looks g c = looks_once c.in_ok-rows.ensures.looks _

pub returns-clause-answers : goal.returns-clause-answers
returns-clause-answers g c clean t holds =
    let none = none_tally (tally_of t c.args.merchant c.args.day) c.in_ok-rows.rows.items
    (c.in_ok-rows.ensures.answers clean t holds)
    (c.in-None.ensures.value ∙ ap (λ l. slice_get l 0) c.deref.ensures.value) in
    IfOk-weaker c.read.result _ _ (λ n is. is ∙ sym (ap (λ (y : Tally). y.used) none))
    (number_read c.read.result c.from_number.result _ 0 c.read.ensures.value c.from_number.ensures)

pub returns-clause-fails : goal.returns-clause-fails
returns-clause-fails g c clean t at past free =
    number_taken c.read.result c.from_number.result _ 0 _ c.read.ensures.fault
    c.from_number.ensures refl
