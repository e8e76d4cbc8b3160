use Rattle.std.proofs.Common.{[], ◌∷◌, ◌++◌, ◌∙◌, Err, false, true, refl, sym, arith, rules}
use Rattle.std.proofs.lemmas.List.{length-append}
use Rattle.sqlite.specs.Given.{row_if}
use Rattle.sqlite.specs.Held.{state}
use Rattle.sqlite.specs.State.{HasCleanDisk}
use Rattle.acq_sql_reads.specs.Looked.{LooksOnly}
use Rattle.acq_sql_reads.proofs.Leaves.{looks, looks_in_vain}
use Rattle.acq_sql_reads.proofs.Showing.{looks_failed, looks_still}
use Rattle.acq_sql_audit.specs.Compared.{select_of}
use Rattle.acq_sql_audit.proofs.Answering.{answers_none, answers_more, follows, looks_further}
use Rattle.acq_sql_audit.proofs.comparing.difference_in.Goals as goal

pub returns-in_err-theirs-clause-looks : goal.returns-in_err-theirs-clause-looks
returns-in_err-theirs-clause-looks g c plain =
    let old = state g.S.Store c.args.file.now in
    let new = state g.S.Store c.query.follows.lender-at-none in
    let refused = rw (c.in_err-theirs.was, c.select.ensures) at c.query.follows.holds-at-none in
    let e = c.in_err-theirs.field-0.0 in
    let here : LooksOnly old new false =
    looks (select_of c.args.table) [] old new plain {X = Unit {0}} (λ x. []) (Err e)
    (λ clean. tt) refused.err refused.mode refused.survives in
    looks_in_vain here c.from_residual.result c.from_residual.ensures.0

pub returns-in_err-ours-clause-looks : goal.returns-in_err-ours-clause-looks
returns-in_err-ours-clause-looks g c plain =
    let begun = rw c.select.ensures at c.in_ok-theirs.ensures in
    let showing = answers_none g.S.Store (select_of c.args.table) c.args.file.now
    c.in_ok-theirs.theirs.conn.now begun.mode begun.survives begun.begun in
    let here = looks_in_vain (looks_still showing plain false)
    c.from_residual-in_err-ours.result c.from_residual-in_err-ours.ensures.0 in
    search rules

pub returns-in_err-ours-clause-looks_at_made : goal.returns-in_err-ours-clause-looks_at_made
returns-in_err-ours-clause-looks_at_made g c plain =
    let old = state g.M.Store c.args.made.now in
    let new = state g.M.Store c.query-2.follows.lender-at-none in
    let refused = rw (c.in_err-ours.was, c.select-2.ensures) at c.query-2.follows.holds-at-none in
    let e = c.in_err-ours.field-0.0 in
    let here : LooksOnly old new false =
    looks (select_of c.args.table) [] old new plain {X = Unit {0}} (λ x. []) (Err e)
    (λ clean. tt) refused.err refused.mode refused.survives in
    looks_in_vain here c.from_residual-in_err-ours.result c.from_residual-in_err-ours.ensures.0

pub loop-row-init : goal.loop-row-init
loop-row-init g c =
    let begun = rw c.select.ensures at c.in_ok-theirs.ensures in
    let also = rw c.select-2.ensures at c.in_ok-ours.ensures in (
      refl,
      refl,
      (
        [],
        refl,
        answers_none g.S.Store (select_of c.args.table) c.args.file.now
            c.in_ok-theirs.theirs.conn.now begun.mode begun.survives begun.begun,
        answers_none g.M.Store (select_of c.args.table) c.args.made.now
            c.in_ok-ours.ours.conn.now also.mode also.survives also.begun,
      ),
    )

pub returns-in_err-advance-clause-looks : goal.returns-in_err-advance-clause-looks
returns-in_err-advance-clause-looks g c plain =
    let moved = c.advance.ensures in
    let showing = c.loop-row.invariant.2.2 in
    let here = looks_in_vain (looks_failed showing c.advance.new.self.conn.now moved.survives
    moved.mode plain c.in_err-advance.field-0.0
    (λ clean. rw c.in_err-advance.was at (moved.kept clean)))
    c.from_residual-in_err-advance.result c.from_residual-in_err-advance.ensures.0 in
    search rules

pub returns-in_err-advance-clause-looks_at_made :
    goal.returns-in_err-advance-clause-looks_at_made
returns-in_err-advance-clause-looks_at_made g c plain =
    let here = looks_in_vain (looks_still c.loop-row.invariant.2.3 plain false)
    c.from_residual-in_err-advance.result c.from_residual-in_err-advance.ensures.0 in
    search rules

pub returns-in_err-advance-2-clause-looks : goal.returns-in_err-advance-2-clause-looks
returns-in_err-advance-2-clause-looks g c plain =
    let here = looks_in_vain
    (looks_further c.loop-row.invariant.2.2 c.advance.new.self.conn.now c.advance.ensures.survives
    c.advance.ensures.mode
    (row_if c.advance.new.self.has_row c.advance.new.self.conn.now)
    (λ clean. rw c.in_ok-advance.was at (c.advance.ensures.ok clean))
    (λ clean. rw c.in_ok-advance.was at (c.advance.ensures.same clean))
    plain false)
    c.from_residual-in_err-advance-2.result c.from_residual-in_err-advance-2.ensures.0 in
    search rules

pub returns-in_err-advance-2-clause-looks_at_made :
    goal.returns-in_err-advance-2-clause-looks_at_made
returns-in_err-advance-2-clause-looks_at_made g c plain =
    let moved = c.advance-in-loop-row.ensures in
    let here = looks_in_vain (looks_failed c.loop-row.invariant.2.3
    c.advance-in-loop-row.new.self.conn.now moved.survives moved.mode plain
    c.in_err-advance-2.field-0.0
    (λ clean. rw c.in_err-advance-2.was at (moved.kept clean)))
    c.from_residual-in_err-advance-2.result c.from_residual-in_err-advance-2.ensures.0 in
    search rules

pub returns-in-End-clause-tells : goal.returns-in-End-clause-tells
returns-in-End-clause-tells g c clean pure plain =
    let late : HasCleanDisk (state g.S.Store c.advance.new.self.conn.now) = search rules in
    let also : HasCleanDisk (state g.M.Store c.advance-in-loop-row.new.self.conn.now) =
    search rules in
    let theirs = follows c.loop-row.invariant.2.2 c.advance.new.self.conn.now
    c.advance.ensures.survives
    c.advance.ensures.mode
    (row_if c.advance.new.self.has_row c.advance.new.self.conn.now)
    (λ clean. rw c.in_ok-advance.was at (c.advance.ensures.ok clean))
    (λ clean. rw c.in_ok-advance.was at (c.advance.ensures.same clean))
    late plain in
    let ours = follows c.loop-row.invariant.2.3 c.advance-in-loop-row.new.self.conn.now
    c.advance-in-loop-row.ensures.survives c.advance-in-loop-row.ensures.mode
    (row_if c.advance-in-loop-row.new.self.has_row c.advance-in-loop-row.new.self.conn.now)
    (λ clean. rw c.in_ok-advance-2.was at (c.advance-in-loop-row.ensures.ok clean))
    (λ clean. rw c.in_ok-advance-2.was at (c.advance-in-loop-row.ensures.same clean))
    also plain in (
      c.loop-row.invariant.2.0,
      rw (sym c.get.ensures ∙ c.in-End.ensures.0) at theirs,
      rw (sym c.get-in-loop-row.ensures ∙ c.in-End.ensures.1) at ours,
    )

pub returns-in-End-clause-looks : goal.returns-in-End-clause-looks
returns-in-End-clause-looks g c plain =
    let here = looks_further c.loop-row.invariant.2.2 c.advance.new.self.conn.now
    c.advance.ensures.survives
    c.advance.ensures.mode
    (row_if c.advance.new.self.has_row c.advance.new.self.conn.now)
    (λ clean. rw c.in_ok-advance.was at (c.advance.ensures.ok clean))
    (λ clean. rw c.in_ok-advance.was at (c.advance.ensures.same clean))
    plain true in
    search rules

pub returns-in-End-clause-looks_at_made : goal.returns-in-End-clause-looks_at_made
returns-in-End-clause-looks_at_made g c plain =
    let here = looks_further c.loop-row.invariant.2.3 c.advance-in-loop-row.new.self.conn.now
    c.advance-in-loop-row.ensures.survives c.advance-in-loop-row.ensures.mode
    (row_if c.advance-in-loop-row.new.self.has_row c.advance-in-loop-row.new.self.conn.now)
    (λ clean. rw c.in_ok-advance-2.was at (c.advance-in-loop-row.ensures.ok clean))
    (λ clean. rw c.in_ok-advance-2.was at (c.advance-in-loop-row.ensures.same clean))
    plain true in
    search rules

pub returns-in-Differ-clause-tells : goal.returns-in-Differ-clause-tells
returns-in-Differ-clause-tells g c clean pure plain =
    let late : HasCleanDisk (state g.S.Store c.advance.new.self.conn.now) = search rules in
    let also : HasCleanDisk (state g.M.Store c.advance-in-loop-row.new.self.conn.now) =
    search rules in
    let theirs = follows c.loop-row.invariant.2.2 c.advance.new.self.conn.now
    c.advance.ensures.survives
    c.advance.ensures.mode
    (row_if c.advance.new.self.has_row c.advance.new.self.conn.now)
    (λ clean. rw c.in_ok-advance.was at (c.advance.ensures.ok clean))
    (λ clean. rw c.in_ok-advance.was at (c.advance.ensures.same clean))
    late plain in
    let ours = follows c.loop-row.invariant.2.3 c.advance-in-loop-row.new.self.conn.now
    c.advance-in-loop-row.ensures.survives c.advance-in-loop-row.ensures.mode
    (row_if c.advance-in-loop-row.new.self.has_row c.advance-in-loop-row.new.self.conn.now)
    (λ clean. rw c.in_ok-advance-2.was at (c.advance-in-loop-row.ensures.ok clean))
    (λ clean. rw c.in_ok-advance-2.was at (c.advance-in-loop-row.ensures.same clean))
    also plain in (
      c.loop-row.invariant.2.0,
      row_if c.advance.new.self.has_row c.advance.new.self.conn.now,
      row_if c.advance-in-loop-row.new.self.has_row c.advance-in-loop-row.new.self.conn.now,
      theirs,
      ours,
      refl,
      c.loop-row.invariant.2.1,
      rw (c.get.ensures, c.get-in-loop-row.ensures) at c.in-Differ.ensures,
    )

pub returns-in-Differ-clause-looks : goal.returns-in-Differ-clause-looks
returns-in-Differ-clause-looks g c plain =
    let here = looks_further c.loop-row.invariant.2.2 c.advance.new.self.conn.now
    c.advance.ensures.survives
    c.advance.ensures.mode
    (row_if c.advance.new.self.has_row c.advance.new.self.conn.now)
    (λ clean. rw c.in_ok-advance.was at (c.advance.ensures.ok clean))
    (λ clean. rw c.in_ok-advance.was at (c.advance.ensures.same clean))
    plain true in
    search rules

pub returns-in-Differ-clause-looks_at_made : goal.returns-in-Differ-clause-looks_at_made
returns-in-Differ-clause-looks_at_made g c plain =
    let here = looks_further c.loop-row.invariant.2.3 c.advance-in-loop-row.new.self.conn.now
    c.advance-in-loop-row.ensures.survives c.advance-in-loop-row.ensures.mode
    (row_if c.advance-in-loop-row.new.self.has_row c.advance-in-loop-row.new.self.conn.now)
    (λ clean. rw c.in_ok-advance-2.was at (c.advance-in-loop-row.ensures.ok clean))
    (λ clean. rw c.in_ok-advance-2.was at (c.advance-in-loop-row.ensures.same clean))
    plain true in
    search rules

pub loop-row-preserved : goal.loop-row-preserved
loop-row-preserved g c =
    let rows = c.loop-row.invariant.2.0 in
    let row = c.in-Same.ensures.0 in (
      c.advance.ensures.same_reference ∙ c.loop-row.invariant.0,
      c.advance-in-loop-row.ensures.same_reference ∙ c.loop-row.invariant.1,
      (
        rows ++ row ∷ [],
        omega (arith, length-append rows (row ∷ []), c.loop-row.invariant.2.1),
        answers_more c.loop-row.invariant.2.2 c.advance.new.self.conn.now c.advance.ensures.survives
            c.advance.ensures.mode
            (row_if c.advance.new.self.has_row c.advance.new.self.conn.now)
            (λ clean. rw c.in_ok-advance.was at (c.advance.ensures.ok clean))
            (λ clean. rw c.in_ok-advance.was at (c.advance.ensures.same clean))
            row (sym c.get.ensures ∙ c.in-Same.ensures.1),
        answers_more c.loop-row.invariant.2.3 c.advance-in-loop-row.new.self.conn.now
            c.advance-in-loop-row.ensures.survives c.advance-in-loop-row.ensures.mode
            (row_if c.advance-in-loop-row.new.self.has_row c.advance-in-loop-row.new.self.conn.now)
            (λ clean. rw c.in_ok-advance-2.was at (c.advance-in-loop-row.ensures.ok clean))
            (λ clean. rw c.in_ok-advance-2.was at (c.advance-in-loop-row.ensures.same clean))
            row (sym c.get-in-loop-row.ensures ∙ c.in-Same.ensures.2),
      ),
    )

pub returns-clause-looks : goal.returns-clause-looks
returns-clause-looks g c plain =
    let here = looks_still c.loop-row.invariant.2.2 plain false in
    search rules

pub returns-clause-looks_at_made : goal.returns-clause-looks_at_made
returns-clause-looks_at_made g c plain =
    let here = looks_still c.loop-row.invariant.2.3 plain false in
    search rules
