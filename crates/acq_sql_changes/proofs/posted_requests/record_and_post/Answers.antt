use Rattle.std.proofs.Common.{Some, refl, ap}
use Rattle.acq_core.specs.declared.change.Change.TheVariants as change
use Rattle.acq_sql_writes.specs.Written.{with_request, with_posting}
use Rattle.acq_sql_writes.specs.Refused.{HasTables, TakesRequest, TakesPosting}
use Rattle.acq_sql_changes.specs.Changed.{HasRoomToFollow, with_posted}
use Rattle.acq_sql_changes.specs.Refused.{TakesPosted}
use Rattle.acq_sql_changes.proofs.ListTallies.{request_and_posting_tally, tally_followed}
use Rattle.acq_sql_changes.proofs.Outcomes.{drops, ends_raised}
use Rattle.acq_sql_changes.proofs.Progress.{unwritten, wrote}
use Rattle.acq_sql_changes.proofs.Room.{posting_short, request_short}
use Rattle.acq_sql_changes.proofs.TakenTables.{takes_posting, takes_request, texts_of_last}
use Rattle.acq_sql_changes.proofs.posted_requests.record_and_post.Goals as goal

pub returns-in_err-add_request : goal.returns-in_err-add_request
returns-in_err-add_request g c =
    let r = c.args.request.now in
    drops (change.AddRequest r) (TakesPosted r c.args.number c.args.posting.now) (unwritten _)
    (with_request r) c.in_err-add_request.ensures.writes
    (HasTables (TakesRequest r)) c.in_err-add_request.ensures.fails
    (λ t taken rows. (
      t,
      taken.holds.runs,
      takes_request taken r taken.takes.fits.key
          (texts_of_last t.requests r taken.takes.later.texts),
      rows,
    ))
    c.from_residual.result c.from_residual.ensures

pub returns-in_err-add_posting : goal.returns-in_err-add_posting
returns-in_err-add_posting g c =
    let r = c.args.request.now in
    let p = c.args.posting.now in
    let n = c.args.number in
    let added = wrote (unwritten _) (with_request r) c.in_ok-add_request.ensures.writes in
    drops (change.AddRequest r) (TakesPosted r n p) added
    (with_posting n p) c.in_err-add_posting.ensures.writes
    (HasTables (TakesPosting n p)) c.in_err-add_posting.ensures.fails
    (λ t taken rows. (
      _,
      taken.holds.runs,
      takes_posting taken n p taken.fit.0.1.1 taken.fit.1 _ refl,
      rows,
    ))
    c.from_residual-in_err-add_posting.result c.from_residual-in_err-add_posting.ensures

pub returns : goal.returns
returns g c =
    let r = c.args.request.now in
    let p = c.args.posting.now in
    let n = c.args.number in
    let added = wrote (unwritten _) (with_request r) c.in_ok-add_request.ensures.writes in
    let posted = wrote added (with_posting n p) c.in_ok-add_posting.ensures.writes in
    let raised = rw (c.used_by-used.ensures.value, c.totals_of_posting-posted.ensures)
    at c.raise.ensures in
    ends_raised (change.AddRequest r) (TakesPosted r n p) posted c.raise.result
    r.key.merchant r.day (request_and_posting_tally r p) raised.writes raised.fails
    (HasRoomToFollow r n p) (with_posted r (Some p))
    (λ t room. tally_followed t n r p room.2)
    (λ t room short. posting_short (with_request r t) n p (request_short t r short room.0) room.1.0)
    (λ t room. ap (λ k. with_posting k p (with_request r t)) room.1.1)
    (λ t taken. taken.fit.0)
