use Rattle.acq_inquiry.proofs.Searched.{kept_for, posted_on}
use Rattle.acq_inquiry.proofs.search.Search.post.Goals as goal

pub returns-clause-goes : goal.returns-clause-goes
returns-clause-goes g c = λ honest opened is.
    let copied = c.in_ok-next.ensures in
    let t = g.B.Book.tables c.args.book.now in
    posted_on t c.args.self.now _ is copied.asks copied.references copied.seen copied.places
    copied.looked
    (kept_for t c.args.self.now c.kept.result.merchant c.kept.result.references.now
    c.kept.result.days.now c.in_ok-days.days.items c.kept.ensures.merchant
    c.kept.ensures.references c.kept.ensures.days (c.in_ok-days.ensures.goes honest opened)
    is.days)
