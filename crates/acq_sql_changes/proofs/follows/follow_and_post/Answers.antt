use Rattle.std.proofs.Common.{Some, refl, ap}
use Rattle.acq_core.specs.declared.change.Change.TheVariants as change
use Rattle.acq_sql_writes.specs.Written.{with_remains, with_request, with_posting}
use Rattle.acq_sql_writes.specs.Refused.{HasTables, HasShortRequests, TakesRequest, TakesPosting}
use Rattle.acq_sql_changes.specs.Changed.{HasRoomToFollow, with_follow}
use Rattle.acq_sql_changes.specs.Refused.{IsNextPosting}
use Rattle.acq_sql_changes.proofs.ListTallies.{request_and_posting_tally}
use Rattle.acq_sql_changes.proofs.Outcomes.{drops, ends_raised}
use Rattle.acq_sql_changes.proofs.Progress.{unwritten, wrote}
use Rattle.acq_sql_changes.proofs.RaisedDays.{follow_and_post_comes, follow_and_post_short}
use Rattle.acq_sql_changes.proofs.TakenTables.{short_requests, takes_follower, takes_posting}
use Rattle.acq_sql_changes.proofs.TakenTables.{texts_of_last, card_of_last}
use Rattle.acq_sql_changes.proofs.follows.follow_and_post.Goals as goal

pub returns-in_err-follow_request : goal.returns-in_err-follow_request
returns-in_err-follow_request g c =
    let p = c.args.posting.now in
    drops (change.Follow c.args.request.now c.args.original c.args.remains (Some p))
    (IsNextPosting c.args.number p) (unwritten _) (with_remains c.args.original c.args.remains)
    c.in_err-follow_request.ensures.writes
    (HasTables HasShortRequests) c.in_err-follow_request.ensures.fails
    (λ t taken rows. (t, taken.holds.runs, short_requests taken, rows))
    c.from_residual.result c.from_residual.ensures

pub returns-in_err-add_request : goal.returns-in_err-add_request
returns-in_err-add_request g c =
    let r = c.args.request.now in
    let of = c.args.original in
    let remains = c.args.remains in
    let p = c.args.posting.now in
    let followed = wrote (unwritten _) (with_remains of remains)
    c.in_ok-follow_request.ensures.writes in
    drops (change.Follow r of remains (Some p)) (IsNextPosting c.args.number p) followed
    (with_request r) c.in_err-add_request.ensures.writes
    (HasTables (TakesRequest r)) c.in_err-add_request.ensures.fails
    (λ t taken rows. (
      _,
      taken.holds.runs,
      takes_follower taken of remains r
          taken.takes.fits.0.key (texts_of_last _ r taken.takes.later.texts),
      rows,
    ))
    c.from_residual-in_err-add_request.result c.from_residual-in_err-add_request.ensures

pub returns-in_err-add_posting : goal.returns-in_err-add_posting
returns-in_err-add_posting g c =
    let r = c.args.request.now in
    let of = c.args.original in
    let remains = c.args.remains in
    let p = c.args.posting.now in
    let n = c.args.number in
    let followed = wrote (unwritten _) (with_remains of remains)
    c.in_ok-follow_request.ensures.writes in
    let added = wrote followed (with_request r) c.in_ok-add_request.ensures.writes in
    drops (change.Follow r of remains (Some p)) (IsNextPosting n p) added
    (with_posting n p) c.in_err-add_posting.ensures.writes
    (HasTables (TakesPosting n p)) c.in_err-add_posting.ensures.fails
    (λ t taken rows. (
      _,
      taken.holds.runs,
      takes_posting taken n p taken.fit
          (card_of_last t.postings _ taken.takes.later.cards) _ refl,
      rows,
    ))
    c.from_residual-in_err-add_posting.result c.from_residual-in_err-add_posting.ensures

pub returns : goal.returns
returns g c =
    let r = c.args.request.now in
    let of = c.args.original in
    let remains = c.args.remains in
    let p = c.args.posting.now in
    let n = c.args.number in
    let followed = wrote (unwritten _) (with_remains of remains)
    c.in_ok-follow_request.ensures.writes in
    let added = wrote followed (with_request r) c.in_ok-add_request.ensures.writes in
    let posted = wrote added (with_posting n p) c.in_ok-add_posting.ensures.writes in
    let raised = rw (c.used_by-used.ensures.value, c.totals_of_posting-posted.ensures)
    at c.raise.ensures in
    ends_raised (change.Follow r of remains (Some p)) (IsNextPosting n p) posted c.raise.result
    r.key.merchant r.day (request_and_posting_tally r p) raised.writes raised.fails
    (HasRoomToFollow r n p) (with_follow r of remains (Some p))
    (λ t room. follow_and_post_comes r of remains t n p room)
    (λ t room. follow_and_post_short r of remains t n p room)
    (λ t room. ap (λ k. with_posting k p (with_request r (with_remains of remains t))) room.1.1)
    (λ t taken. let fits = taken.takes.fits in (fits.0.used, (fits.1, taken.fit), fits.2))
