use Rattle.std.proofs.Common.{Some, refl, ap}
use Rattle.acq_core.specs.declared.change.Change.TheVariants as change
use Rattle.acq_sql_rows.specs.Tallies.{posting_tally}
use Rattle.acq_sql_writes.specs.Written.{with_answer, with_posting}
use Rattle.acq_sql_writes.specs.Refused.{HasTables, HasShortRequests, TakesPosting}
use Rattle.acq_sql_changes.specs.Changed.{HasRoomToPost, with_whole_answer}
use Rattle.acq_sql_changes.specs.Refused.{IsNextPosting}
use Rattle.acq_sql_changes.proofs.Outcomes.{drops, ends_raised}
use Rattle.acq_sql_changes.proofs.Progress.{unwritten, wrote}
use Rattle.acq_sql_changes.proofs.RaisedDays.{answer_comes, answer_short}
use Rattle.acq_sql_changes.proofs.TakenTables.{short_requests, takes_posting, card_of_last}
use Rattle.acq_sql_changes.proofs.posted_answers.answer_and_post.Goals as goal

pub returns-in_err-answer_request : goal.returns-in_err-answer_request
returns-in_err-answer_request g c =
    let a = c.args.answer.now in
    let p = c.args.posting.now in
    drops (change.Answered a.key a.status a.reply.now a.hold_end (Some p))
    (IsNextPosting c.args.number p) (unwritten _)
    (with_answer a.key a.status a.reply.now a.hold_end) c.in_err-answer_request.ensures.writes
    (HasTables HasShortRequests) c.in_err-answer_request.ensures.fails
    (λ t taken rows. (t, taken.holds.runs, short_requests taken, rows))
    c.from_residual.result c.from_residual.ensures

pub returns-in_err-add_posting : goal.returns-in_err-add_posting
returns-in_err-add_posting g c =
    let a = c.args.answer.now in
    let p = c.args.posting.now in
    let n = c.args.number in
    let answered = wrote (unwritten _) (with_answer a.key a.status a.reply.now a.hold_end)
    c.in_ok-answer_request.ensures.writes in
    drops (change.Answered a.key a.status a.reply.now a.hold_end (Some p)) (IsNextPosting n p)
    answered (with_posting n p) c.in_err-add_posting.ensures.writes
    (HasTables (TakesPosting n p)) c.in_err-add_posting.ensures.fails
    (λ t taken rows. (
      _,
      taken.holds.runs,
      takes_posting taken n p taken.fit
          (card_of_last t.postings _ taken.takes.later.cards) _ refl,
      rows,
    ))
    c.from_residual-in_err-add_posting.result c.from_residual-in_err-add_posting.ensures

pub returns : goal.returns
returns g c =
    let a = c.args.answer.now in
    let p = c.args.posting.now in
    let n = c.args.number in
    let answered = wrote (unwritten _) (with_answer a.key a.status a.reply.now a.hold_end)
    c.in_ok-answer_request.ensures.writes in
    let posted = wrote answered (with_posting n p) c.in_ok-add_posting.ensures.writes in
    let raised = rw c.totals_of_posting-posted.ensures at c.raise.ensures in
    ends_raised (change.Answered a.key a.status a.reply.now a.hold_end (Some p))
    (IsNextPosting n p) posted c.raise.result p.merchant p.day (posting_tally p)
    raised.writes raised.fails (HasRoomToPost n p)
    (with_whole_answer a.key a.status a.reply.now a.hold_end (Some p))
    (λ t _. answer_comes a.key a.status a.reply.now a.hold_end n p t)
    (λ t. answer_short a.key a.status a.reply.now a.hold_end n p t)
    (λ t room. ap (λ k. with_posting k p (with_answer a.key a.status a.reply.now a.hold_end t))
    room.1)
    (λ t taken. (taken.takes.fits, taken.fit))
