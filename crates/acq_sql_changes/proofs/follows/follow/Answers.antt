use Rattle.std.proofs.Common.{None, refl}
use Rattle.acq_core.specs.declared.change.Change.TheVariants as change
use Rattle.acq_sql_rows.specs.Tallies.{request_tally}
use Rattle.acq_sql_writes.specs.Written.{with_remains, with_request}
use Rattle.acq_sql_writes.specs.Refused.{AnyTables, HasTables, HasShortRequests, TakesRequest}
use Rattle.acq_sql_changes.specs.Changed.{HasRoomFor, with_follow}
use Rattle.acq_sql_changes.proofs.Outcomes.{drops, ends_raised}
use Rattle.acq_sql_changes.proofs.Progress.{unwritten, wrote}
use Rattle.acq_sql_changes.proofs.RaisedDays.{follow_comes, follow_short}
use Rattle.acq_sql_changes.proofs.TakenTables.{short_requests, takes_follower, texts_of_last}
use Rattle.acq_sql_changes.proofs.follows.follow.Goals as goal

pub returns-in_err-follow_request : goal.returns-in_err-follow_request
returns-in_err-follow_request g c =
    drops (change.Follow c.args.request.now c.args.original c.args.remains None) AnyTables
    (unwritten _) (with_remains c.args.original c.args.remains)
    c.in_err-follow_request.ensures.writes
    (HasTables HasShortRequests) c.in_err-follow_request.ensures.fails
    (λ t taken rows. (t, taken.holds.runs, short_requests taken, rows))
    c.from_residual.result c.from_residual.ensures

pub returns-in_err-add_request : goal.returns-in_err-add_request
returns-in_err-add_request g c =
    let r = c.args.request.now in
    let of = c.args.original in
    let remains = c.args.remains in
    let followed = wrote (unwritten _) (with_remains of remains)
    c.in_ok-follow_request.ensures.writes in
    drops (change.Follow r of remains None) AnyTables followed (with_request r)
    c.in_err-add_request.ensures.writes
    (HasTables (TakesRequest r)) c.in_err-add_request.ensures.fails
    (λ t taken rows. (
      _,
      taken.holds.runs,
      takes_follower taken of remains r
          taken.takes.fits.0.key (texts_of_last _ r taken.takes.later.texts),
      rows,
    ))
    c.from_residual-in_err-add_request.result c.from_residual-in_err-add_request.ensures

pub returns : goal.returns
returns g c =
    let r = c.args.request.now in
    let of = c.args.original in
    let remains = c.args.remains in
    let followed = wrote (unwritten _) (with_remains of remains)
    c.in_ok-follow_request.ensures.writes in
    let added = wrote followed (with_request r) c.in_ok-add_request.ensures.writes in
    let raised = rw (c.used_by-used.ensures.value, c.zero-none.ensures.value) at c.raise.ensures in
    ends_raised (change.Follow r of remains None) AnyTables added c.raise.result
    r.key.merchant r.day (request_tally r) raised.writes raised.fails
    (HasRoomFor r) (with_follow r of remains None) (λ t _. follow_comes r of remains t)
    (λ t. follow_short r of remains t) (λ t _. refl) (λ t taken. taken.takes.fits.0.used)
