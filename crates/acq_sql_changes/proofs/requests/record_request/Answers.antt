use Rattle.std.proofs.Common.{◌≡◌, false, refl, rules}
use Rattle.acq_core.specs.declared.change.Change.TheVariants as change
use Rattle.acq_sql_rows.specs.Tallies.{request_tally}
use Rattle.acq_sql_writes.specs.Written.{with_request}
use Rattle.acq_sql_writes.specs.Refused.{AnyTables, HasTables, TakesRequest}
use Rattle.acq_sql_changes.specs.Changed.{HasRoomFor}
use Rattle.acq_sql_changes.proofs.ListTallies.{tally_requested, tally_uncounted}
use Rattle.acq_sql_changes.proofs.Outcomes.{drops, ends, ends_raised}
use Rattle.acq_sql_changes.proofs.Progress.{unwritten, wrote}
use Rattle.acq_sql_changes.proofs.Room.{request_short}
use Rattle.acq_sql_changes.proofs.TakenTables.{takes_request, texts_of_last}
use Rattle.acq_sql_changes.proofs.ToldApart.{drops_apart, tells_apart}
use Rattle.acq_sql_changes.proofs.requests.record_request.Goals as goal

pub returns-in_err-add_request : goal.returns-in_err-add_request
returns-in_err-add_request g c =
    let r = c.args.request.now in
    let outcome = drops (change.AddRequest r) AnyTables (unwritten _) (with_request r)
    c.in_err-add_request.ensures.writes
    (HasTables (TakesRequest r)) c.in_err-add_request.ensures.fails
    (λ t taken rows. (
      t,
      taken.holds.runs,
      takes_request taken r taken.takes.fits.key
          (texts_of_last t.requests r taken.takes.later.texts),
      rows,
    ))
    c.from_residual.result c.from_residual.ensures in
    record {
      changes = outcome.changes;
      fails = outcome.fails;
      apart = drops_apart (unwritten _) c.in_err-add_request.ensures.writes
          c.in_err-add_request.ensures.apart c.from_residual.result c.from_residual.ensures;
    }

pub returns : goal.returns
returns g c =
    let r = c.args.request.now in
    let added = wrote (unwritten _) (with_request r) c.in_ok-add_request.ensures.writes in
    let raised = rw (c.used_by-used.ensures.value, c.zero-none.ensures.value) at c.raise.ensures in
    let outcome = ends_raised (change.AddRequest r) AnyTables added c.raise.result r.key.merchant
    r.day
    (request_tally r) raised.writes raised.fails (HasRoomFor r) (with_request r)
    (λ t _. tally_requested t r) (λ t room short. request_short t r short room) (λ t _. refl)
    (λ t taken. taken.takes.fits.used) in
    record {
      changes = outcome.changes;
      fails = outcome.fails;
      apart = tells_apart added c.raise.result raised.writes raised.apart;
    }

-- one that doesn't count raises nothing
pub returns-then-not-request : goal.returns-then-not-request
returns-then-not-request g c =
    let r = c.args.request.now in
    let uncounted : r.admitted ≡ false = search rules in
    let outcome = ends (change.AddRequest r) AnyTables (unwritten _) c.add_request.result
    (with_request r)
    c.add_request.ensures.writes (HasTables (TakesRequest r)) c.add_request.ensures.fails
    (λ t taken rows. (
      t,
      taken.holds.runs,
      takes_request taken r taken.takes.fits.key
          (texts_of_last t.requests r taken.takes.later.texts),
      rows,
    ))
    (λ t. tally_uncounted t r uncounted) in
    record {
      changes = outcome.changes;
      fails = outcome.fails;
      apart = tells_apart (unwritten _) c.add_request.result c.add_request.ensures.writes
          c.add_request.ensures.apart;
    }
