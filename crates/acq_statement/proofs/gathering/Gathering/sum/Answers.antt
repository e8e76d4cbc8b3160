use Rattle.std.proofs.Common.{◌∙◌, refl}
use Rattle.acq_statement.proofs.Gathered.{summed_on, summed_whole}
use Rattle.acq_statement.proofs.gathering.Gathering.sum.Goals as goal

pub returns-clause-goes : goal.returns-clause-goes
returns-clause-goes g c = λ honest opened is.
    summed_on (g.B.Book.tables c.args.book.now) (g.met.B.Book.past c.args.book.now opened)
    c.args.self.now _ c.walk_postings_above.new.visitor
    (c.in_ok-sums.ensures.items ∙ c.as_slice.ensures.value) refl is
    (c.in_ok-walk_postings_above.ensures.seen honest opened) c.if-posted.false _
    (refl, refl, refl) refl refl (c.in_ok-claims.ensures.items ∙ c.as_slice-2.ensures.value) refl

pub returns-clause-whole : goal.returns-clause-whole
returns-clause-whole g c = λ honest opened is whole.
    summed_whole (g.B.Book.tables c.args.book.now) (g.met.B.Book.past c.args.book.now opened)
    c.args.self.now _ c.walk_postings_above.new.visitor
    (c.in_ok-sums.ensures.items ∙ c.as_slice.ensures.value) refl is
    (c.in_ok-walk_postings_above.ensures.seen honest opened) c.if-posted.false whole
