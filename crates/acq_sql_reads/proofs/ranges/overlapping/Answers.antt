use Rattle.std.proofs.Common.{◌∙◌}
use Rattle.std.proofs.lemmas.Result.{IfErr-weaker, IfOk-from_err, err_from_is_err_and}
use Rattle.sqlite.specs.Held.{state}
use Rattle.acq_sql_reads.proofs.Leaves.{clean_before, holds_still, looks_in_vain, looks_then}
use Rattle.acq_sql_reads.proofs.Leaves.{open_unchanged}
use Rattle.acq_sql_reads.proofs.Failing.{excused_from, ranges_apart}
use Rattle.acq_sql_reads.proofs.ranges.overlapping.Goals as goal

pub returns-in_err-first-clause-answers : goal.returns-in_err-first-clause-answers
returns-in_err-first-clause-answers g c clean t holds apart =
    IfOk-from_err c.from_residual.result _ c.from_residual.ensures.0

pub returns-in_err-first-clause-looks : goal.returns-in_err-first-clause-looks
returns-in_err-first-clause-looks g c =
    looks_in_vain c.in_err-first.ensures.looks c.from_residual.result c.from_residual.ensures.0

pub returns-in_err-first-clause-fails : goal.returns-in_err-first-clause-fails
returns-in_err-first-clause-fails g c clean t at past free =
    let p = err_from_is_err_and c.from_residual.result c.from_residual.ensures.1 in
    rw (p.1, p.2) (c.in_err-first.ensures.fails clean t at past free)

pub returns-clause-answers : goal.returns-clause-answers
returns-clause-answers g c clean t holds apart =
    let old = state g.S.Store c.args.conn.now in
    let mid = state g.S.Store c.first_low.new.conn in
    let new = state g.S.Store c.overlapping_from.new.conn in
    let first = c.in_ok-first.ensures.looks in
    let before = clean_before old mid new first c.overlapping_from.ensures.looks.stop clean in
    c.overlapping_from.ensures.answers clean t (holds_still old mid new first before t holds)
    (c.in_ok-first.ensures.answers before t holds apart)

pub returns-clause-looks : goal.returns-clause-looks
returns-clause-looks g c =
    looks_then (state g.S.Store c.args.conn.now) (state g.S.Store c.first_low.new.conn)
    (state g.S.Store c.overlapping_from.new.conn) c.in_ok-first.ensures.looks _
    c.overlapping_from.ensures.looks

pub returns-clause-fails : goal.returns-clause-fails
returns-clause-fails g c clean t at past free =
    let old = state g.S.Store c.args.conn.now in
    let mid = state g.S.Store c.first_low.new.conn in
    let new = state g.S.Store c.overlapping_from.new.conn in
    let first = c.in_ok-first.ensures.looks in
    let before = clean_before old mid new first c.overlapping_from.ensures.looks.stop clean in
    let reach = c.in_ok-first.ensures.answers before t at.holds (ranges_apart t past) in
    IfErr-weaker c.overlapping_from.result _ _
    (λ e. excused_from old mid new e first.stop.counts)
    (c.overlapping_from.ensures.fails clean t
    (open_unchanged old mid t (first.same before cc) at) (past, reach)
    (first.stop.limit ∙ free))
