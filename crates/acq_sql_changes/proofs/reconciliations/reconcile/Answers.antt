use Rattle.std.proofs.Common.{◌≡◌, false, refl, ap, rules}
use Rattle.acq_core.specs.declared.change.Change.TheVariants as change
use Rattle.acq_sql_rows.specs.Tallies.{request_tally}
use Rattle.acq_sql_writes.specs.Written.{with_request, with_reconciliation}
use Rattle.acq_sql_writes.specs.Refused.{HasTables, TakesRequest, TakesReconciliation}
use Rattle.acq_sql_changes.specs.Changed.{HasRoomToReconcile, with_reconciled}
use Rattle.acq_sql_changes.specs.Refused.{IsNextReconciliation}
use Rattle.acq_sql_changes.proofs.ListTallies.{tally_requested, tally_uncounted}
use Rattle.acq_sql_changes.proofs.Outcomes.{drops, ends_as, ends_raised}
use Rattle.acq_sql_changes.proofs.Progress.{unwritten, wrote}
use Rattle.acq_sql_changes.proofs.Room.{request_short}
use Rattle.acq_sql_changes.proofs.TakenTables.{takes_request, takes_reconciliation, texts_of_last}
use Rattle.acq_sql_changes.proofs.reconciliations.reconcile.Goals as goal

pub returns-in_err-add_request : goal.returns-in_err-add_request
returns-in_err-add_request g c =
    let r = c.args.request.now in
    let n = c.args.number in
    let x = c.args.reconciliation.now in
    drops (change.Reconciled r x) (IsNextReconciliation n x) (unwritten _) (with_request r)
    c.in_err-add_request.ensures.writes
    (HasTables (TakesRequest r)) c.in_err-add_request.ensures.fails
    (λ t taken rows. (
      t,
      taken.holds.runs,
      takes_request taken r taken.takes.fits.key
          (texts_of_last t.requests r taken.takes.later.texts),
      rows,
    ))
    c.from_residual.result c.from_residual.ensures

pub returns-in_err-add_reconciliation : goal.returns-in_err-add_reconciliation
returns-in_err-add_reconciliation g c =
    let r = c.args.request.now in
    let n = c.args.number in
    let x = c.args.reconciliation.now in
    let added = wrote (unwritten _) (with_request r) c.in_ok-add_request.ensures.writes in
    drops (change.Reconciled r x) (IsNextReconciliation n x) added (with_reconciliation n x)
    c.in_err-add_reconciliation.ensures.writes
    (HasTables (TakesReconciliation n x)) c.in_err-add_reconciliation.ensures.fails
    (λ t taken rows. (
      _,
      taken.holds.runs,
      takes_reconciliation taken n x taken.fit _ refl,
      rows,
    ))
    c.from_residual-in_err-add_reconciliation.result
    c.from_residual-in_err-add_reconciliation.ensures

pub returns : goal.returns
returns g c =
    let r = c.args.request.now in
    let n = c.args.number in
    let x = c.args.reconciliation.now in
    let added = wrote (unwritten _) (with_request r) c.in_ok-add_request.ensures.writes in
    let reconciled =
    wrote added (with_reconciliation n x) c.in_ok-add_reconciliation.ensures.writes in
    let raised = rw (c.used_by-used.ensures.value, c.zero-none.ensures.value) at c.raise.ensures in
    ends_raised (change.Reconciled r x) (IsNextReconciliation n x) reconciled c.raise.result
    r.key.merchant r.day (request_tally r) raised.writes raised.fails
    (HasRoomToReconcile r n x) (with_reconciled r x)
    (λ t _. tally_requested t r) (λ t room short. request_short t r short room.0)
    (λ t room. ap (λ k. with_reconciliation k x (with_request r t)) room.1)
    (λ t taken. (taken.takes.fits.used, taken.fit))

-- one that doesn't count raises nothing
pub returns-then-not-request : goal.returns-then-not-request
returns-then-not-request g c =
    let r = c.args.request.now in
    let uncounted : r.admitted ≡ false = search rules in
    let n = c.args.number in
    let x = c.args.reconciliation.now in
    let added = wrote (unwritten _) (with_request r) c.in_ok-add_request.ensures.writes in
    ends_as (change.Reconciled r x) (IsNextReconciliation n x) added c.add_reconciliation.result
    (with_reconciliation n x) c.add_reconciliation.ensures.writes
    (HasTables (TakesReconciliation n x)) c.add_reconciliation.ensures.fails
    (λ t taken rows. (
      _,
      taken.holds.runs,
      takes_reconciliation taken n x taken.fit _ refl,
      rows,
    ))
    (λ t. tally_uncounted t r uncounted)
    (HasRoomToReconcile r n x) (with_reconciled r x)
    (λ t room. ap (λ k. with_reconciliation k x (with_request r t)) room.1)
