use Rattle.std.proofs.Common.{◌≡◌, ◌+◌, ◌∙◌, ap}
use Rattle.sqlite.specs.Held.{state}
use Rattle.acq_book.specs.Lookups.{totals_at}
use Rattle.acq_sql.proofs.apply.ChangesFail.{excused_on}
use Rattle.acq_sql.proofs.apply.PostedByLegs.{all_counts, counted_by_legs}
use Rattle.acq_sql.proofs.apply.numbers.number_of_posting.Goals as goal

pub returns-clause-answers : goal.returns-clause-answers
returns-clause-answers g c clean t holds =
    let p = c.args.posting.now in
    let found : c.posted.result ≡ all_counts (totals_at t p.merchant p.day) =
    c.posted.ensures.value ∙ ap all_counts (c.in_ok-totals.ensures.answers clean t holds) in
    ap (λ n. n + 1) (found ∙ counted_by_legs p.merchant p.day t.postings)

pub returns-in_err-totals-clause-fails : goal.returns-in_err-totals-clause-fails
returns-in_err-totals-clause-fails g c clean t at past free =
    excused_on (state g.S.Store c.args.conn.now) (state g.S.Store c.totals.new.conn)
    c.from_residual.result c.from_residual.ensures.1
    (c.in_err-totals.ensures.fails clean t at past free)
