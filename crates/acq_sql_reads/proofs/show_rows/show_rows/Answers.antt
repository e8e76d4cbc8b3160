use Rattle.std.proofs.Common.{[], ◌∷◌, ◌++◌, inl, inr, true, false, refl, ◌∙◌}
use Rattle.std.proofs.Common.{arith, rules, Err}
use Rattle.std.proofs.lemmas.Result.{err_from_is_err_and}
use Rattle.sqlite.specs.Values.{bound}
use Rattle.sqlite.specs.State.{HasCleanDisk}
use Rattle.sqlite.specs.Held.{state}
use Rattle.acq_sql_reads.specs.Looked.{LooksOnly}
use Rattle.acq_sql_reads.proofs.Leaves.{looks, looks_in_vain}
use Rattle.acq_sql_reads.proofs.Showing.{shown_none, shown_more, shown_to_last, shown_each}
use Rattle.acq_sql_reads.proofs.Showing.{shown_first, shown_before}
use Rattle.acq_sql_reads.proofs.Showing.{kept_on, settled_on, looks_still, looks_on, looks_failed}
use Rattle.acq_sql_reads.proofs.Showing.{none_from_err, on_err}
use Rattle.acq_sql_reads.proofs.Showing.{fails_on, shown_few, shown_fits}
use Rattle.acq_sql_reads.proofs.Visiting.{saw_all, saw_last, saw_more, seen_in_vain}
use Rattle.acq_sql_reads.proofs.show_rows.show_rows.Goals as goal

pub returns-in_err-rows-clause-looks : goal.returns-in_err-rows-clause-looks
returns-in_err-rows-clause-looks g c plain =
    let old = state g.S.Store c.args.conn.now in
    let new = state g.S.Store c.query.follows.lender-at-none in
    let refused = rw c.in_err-rows.was at c.query.follows.holds-at-none in
    let e = c.in_err-rows.field-0.0 in
    let here : LooksOnly old new false =
    looks c.args.sql.now (bound c.args.params.now) old new plain {X = Unit {0}} (λ x. []) (Err e)
    (λ clean. tt)
    refused.err refused.mode refused.survives in
    looks_in_vain here c.from_residual.result c.from_residual.ensures.0

pub rows-init : goal.rows-init
rows-init g c =
    let made = c.in_ok-rows.ensures in (
      refl,
      record {
        kept = made.survives;
        settled = made.mode;
        shown = λ clean plain. shown_none g.S.Store c.args.sql.now
            (bound c.args.params.now) c.args.conn.now
            g.R.ReadRow.shows g.V.Visit.sees c.args.visitor.now c.in_ok-rows.rows.conn.now plain
            (made.begun clean);
      },
      ([], refl),
    )

pub returns-in_err-row-clause-begun : goal.returns-in_err-row-clause-begun
returns-in_err-row-clause-begun g c clean plain =
    let next = c.next.follows.lender-at-none.conn.now in
    let late : HasCleanDisk (state g.S.Store next) = search rules in
    on_err c.from_residual-in_err-row.result
    (shown_first (shown_before c.rows.invariant.1 next c.next.follows.holds-at-none.survives
    c.next.follows.holds-at-none.mode late plain))

pub returns-in_err-row-clause-looks : goal.returns-in_err-row-clause-looks
returns-in_err-row-clause-looks g c plain =
    let moved = c.next.follows.holds-at-none in
    let here = looks_failed c.rows.invariant.1 c.next.follows.lender-at-none.conn.now moved.survives
    moved.mode plain
    c.in_err-row.field-0.0 (λ clean. rw c.in_err-row.was at (moved.kept clean)) in
    search rules

pub returns-in_default-clause-seen : goal.returns-in_default-clause-seen
returns-in_default-clause-seen g c clean plain =
    let moved = c.next.follows.holds-at-none in
    let next = c.next.follows.lender-at-none.conn.now in
    let late : HasCleanDisk (state g.S.Store next) = search rules in
    let was = shown_before c.rows.invariant.1 next moved.survives moved.mode late plain in
    let ended = rw (c.in_ok-row.was, c.in_default.is) at (moved.ok late) in
    inl (shown_each was next plain
    (ended c.args.sql.now (bound c.args.params.now) was.rows was.given))

pub returns-in_default-clause-looks : goal.returns-in_default-clause-looks
returns-in_default-clause-looks g c plain =
    let moved = c.next.follows.holds-at-none in
    let here = looks_on c.rows.invariant.1 c.next.follows.lender-at-none.conn.now moved.survives
    moved.mode plain true
    (λ clean. rw c.in_ok-row.was at (moved.same clean)) in
    search rules

pub returns-in_err-shown-clause-begun : goal.returns-in_err-shown-clause-begun
returns-in_err-shown-clause-begun g c clean plain =
    let next = c.next.follows.lender-at-none.conn.now in
    let late : HasCleanDisk (state g.S.Store next) = search rules in
    on_err c.from_residual-in_err-shown.result
    (shown_first (shown_before c.rows.invariant.1 next c.next.follows.holds-at-none.survives
    c.next.follows.holds-at-none.mode late plain))

pub returns-in_err-shown-clause-looks : goal.returns-in_err-shown-clause-looks
returns-in_err-shown-clause-looks g c plain =
    let moved = c.next.follows.holds-at-none in
    let here = looks_on c.rows.invariant.1 c.next.follows.lender-at-none.conn.now moved.survives
    moved.mode plain false
    (λ clean. rw c.in_ok-row.was at (moved.same clean)) in
    search rules

pub returns-then-not-row-clause-seen : goal.returns-then-not-row-clause-seen
returns-then-not-row-clause-seen g c clean plain =
    let moved = c.next.follows.holds-at-none in
    let next = c.next.follows.lender-at-none.conn.now in
    let late : HasCleanDisk (state g.S.Store next) = search rules in
    let was = shown_before c.rows.invariant.1 next moved.survives moved.mode late plain in
    let gave = rw (c.in_ok-row.was, c.in-Some.is) at (moved.ok late) in
    inr (shown_to_last was next c.row.new.self (rw c.in_ok-row.was at (moved.same late))
    c.in-Some.row.now
    c.in_ok-shown.shown (gave c.args.sql.now (bound c.args.params.now) was.rows was.given)
    c.in_ok-shown.ensures.value
    c.if-not-row.ensures)

pub returns-then-not-row-clause-looks : goal.returns-then-not-row-clause-looks
returns-then-not-row-clause-looks g c plain =
    let moved = c.next.follows.holds-at-none in
    let here = looks_on c.rows.invariant.1 c.next.follows.lender-at-none.conn.now moved.survives
    moved.mode plain true
    (λ clean. rw c.in_ok-row.was at (moved.same clean)) in
    search rules

pub rows-preserved : goal.rows-preserved
rows-preserved g c =
    let moved = c.next.follows.holds-at-none in
    let next = c.next.follows.lender-at-none.conn.now in (
      moved.same_reference ∙ c.rows.invariant.0,
      record {
        kept = kept_on c.rows.invariant.1 next moved.survives moved.mode;
        settled = settled_on c.rows.invariant.1 next moved.survives moved.mode;
        shown = λ late plain.
            let was = shown_before c.rows.invariant.1 next moved.survives moved.mode late plain in
            let gave = rw (c.in_ok-row.was, c.in-Some.is) at (moved.ok late) in
            shown_more was next c.row.new.self (rw c.in_ok-row.was at (moved.same late))
            c.in-Some.row.now
            c.in_ok-shown.shown (gave c.args.sql.now (bound c.args.params.now) was.rows was.given)
            c.in_ok-shown.ensures.value c.if-not-row.ensures;
      },
      (
        c.rows.invariant.2.0 ++ c.in_ok-shown.shown ∷ [],
        saw_more g.V.Visit.sees c.rows.invariant.2.0 c.in_ok-shown.shown c.args.visitor.now
            c.rows.visitor c.row.new.self c.rows.invariant.2.1 c.if-not-row.ensures,
      ),
    )

pub returns-clause-begun : goal.returns-clause-begun
returns-clause-begun g c clean plain =
    let late : HasCleanDisk (state g.S.Store c.rows.rows.conn.now) = search rules in
    shown_first (c.rows.invariant.1.shown late plain)

pub returns-clause-looks : goal.returns-clause-looks
returns-clause-looks g c plain =
    let here = looks_still c.rows.invariant.1 plain false in
    search rules

pub returns-in_err-rows-clause-seen : goal.returns-in_err-rows-clause-seen
returns-in_err-rows-clause-seen g c clean plain =
    none_from_err _ c.from_residual.result c.from_residual.ensures.0

pub returns-in_err-rows-clause-begun : goal.returns-in_err-rows-clause-begun
returns-in_err-rows-clause-begun g c clean plain =
    on_err c.from_residual.result ([], [], inl refl, tt, refl)

pub returns-in_err-row-clause-seen : goal.returns-in_err-row-clause-seen
returns-in_err-row-clause-seen g c clean plain =
    none_from_err _ c.from_residual-in_err-row.result c.from_residual-in_err-row.ensures.0

pub returns-in_default-clause-begun : goal.returns-in_default-clause-begun
returns-in_default-clause-begun g c clean plain = tt

pub returns-in_err-shown-clause-seen : goal.returns-in_err-shown-clause-seen
returns-in_err-shown-clause-seen g c clean plain =
    none_from_err _ c.from_residual-in_err-shown.result c.from_residual-in_err-shown.ensures.0

pub returns-then-not-row-clause-begun : goal.returns-then-not-row-clause-begun
returns-then-not-row-clause-begun g c clean plain = tt

pub returns-clause-seen : goal.returns-clause-seen
returns-clause-seen g c clean plain = tt

pub returns-in_err-rows-clause-fails : goal.returns-in_err-rows-clause-fails
returns-in_err-rows-clause-fails g c clean plain only =
    let p = err_from_is_err_and c.from_residual.result c.from_residual.ensures.1 in
    let refused = rw c.in_err-rows.was at c.query.follows.holds-at-none in
    rw (p.1, p.2) (inr (refused.err clean))

pub returns-in_err-row-clause-fails : goal.returns-in_err-row-clause-fails
returns-in_err-row-clause-fails g c clean plain only =
    let p = err_from_is_err_and c.from_residual-in_err-row.result
    c.from_residual-in_err-row.ensures.1 in
    let moved = c.next.follows.holds-at-none in
    let next = c.next.follows.lender-at-none.conn.now in
    let late : HasCleanDisk (state g.S.Store next) = search rules in
    let why = fails_on c.rows.invariant.1 next moved.survives moved.mode plain
    c.in_err-row.field-0.0 late (rw c.in_err-row.was at (moved.err late)) in
    rw (p.1, p.2) (inr (search rules))

pub returns-in_err-shown-clause-fails : goal.returns-in_err-shown-clause-fails
returns-in_err-shown-clause-fails g c clean plain only =
    let p = err_from_is_err_and c.from_residual-in_err-shown.result
    c.from_residual-in_err-shown.ensures.1 in
    let moved = c.next.follows.holds-at-none in
    let next = c.next.follows.lender-at-none.conn.now in
    let late : HasCleanDisk (state g.S.Store next) = search rules in
    let was = shown_before c.rows.invariant.1 next moved.survives moved.mode late plain in
    let gave = rw (c.in_ok-row.was, c.in-Some.is) at (moved.ok late) in
    rw (p.1, p.2) (inl (c.in_err-shown.ensures.fails
    (shown_fits was next (rw c.in_ok-row.was at (moved.same late)) c.in-Some.row.now
    (gave c.args.sql.now (bound c.args.params.now) was.rows was.given) only)))

pub returns-clause-fails : goal.returns-clause-fails
returns-clause-fails g c clean plain only =
    let late : HasCleanDisk (state g.S.Store c.rows.rows.conn.now) = search rules in
    let few = shown_few (c.rows.invariant.1.shown late plain) only in
    absurd (omega (arith, few))

-- what the visitor saw, whatever the store gave
pub returns-in_err-rows-clause-shown : goal.returns-in_err-rows-clause-shown
returns-in_err-rows-clause-shown g c =
    seen_in_vain g.V.Visit.sees c.args.visitor.now c.args.visitor.now c.from_residual.result
    c.from_residual.ensures.0 ([], refl)

pub returns-in_err-row-clause-shown : goal.returns-in_err-row-clause-shown
returns-in_err-row-clause-shown g c =
    seen_in_vain g.V.Visit.sees c.args.visitor.now c.rows.visitor
    c.from_residual-in_err-row.result c.from_residual-in_err-row.ensures.0 c.rows.invariant.2

pub returns-in_default-clause-shown : goal.returns-in_default-clause-shown
returns-in_default-clause-shown g c = (
  c.rows.invariant.2.0,
  saw_all g.V.Visit.sees c.rows.invariant.2.0 c.args.visitor.now c.rows.visitor
      c.rows.invariant.2.1,
)

pub returns-in_err-shown-clause-shown : goal.returns-in_err-shown-clause-shown
returns-in_err-shown-clause-shown g c =
    seen_in_vain g.V.Visit.sees c.args.visitor.now c.rows.visitor
    c.from_residual-in_err-shown.result c.from_residual-in_err-shown.ensures.0 c.rows.invariant.2

pub returns-then-not-row-clause-shown : goal.returns-then-not-row-clause-shown
returns-then-not-row-clause-shown g c =
    let so = c.rows.invariant.2 in
    let last = c.in_ok-shown.shown in (
      (so.0 ++ last ∷ []) ++ [],
      saw_last g.V.Visit.sees so.0 last [] c.args.visitor.now c.row.new.self
          (c.rows.visitor, so.1, c.if-not-row.ensures),
    )

pub returns-clause-shown : goal.returns-clause-shown
returns-clause-shown g c = c.rows.invariant.2
