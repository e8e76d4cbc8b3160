use Rattle.std.proofs.Common.{◌∙◌, refl}
use Rattle.acq_statement.proofs.Gathered.{claimed_on, claimed_whole}
use Rattle.acq_statement.proofs.gathering.Gathering.claim.Goals as goal

pub returns-clause-goes : goal.returns-clause-goes
returns-clause-goes g c = λ honest opened is.
    claimed_on (g.B.Book.tables c.args.book.now) (g.met.B.Book.past c.args.book.now opened)
    c.args.self.now _ c.walk_requests_behind.new.visitor
    (c.in_ok-claims.ensures.items ∙ c.as_slice-2.ensures.value) refl refl refl is
    (c.in_ok-walk_requests_behind.ensures.seen honest opened) c.if-claiming.false _
    (refl, refl, refl) (c.in_ok-sums.ensures.items ∙ c.as_slice.ensures.value) refl refl refl

pub returns-clause-whole : goal.returns-clause-whole
returns-clause-whole g c = λ honest opened is whole.
    claimed_whole (g.B.Book.tables c.args.book.now) (g.met.B.Book.past c.args.book.now opened)
    c.args.self.now _ c.walk_requests_behind.new.visitor
    (c.in_ok-claims.ensures.items ∙ c.as_slice-2.ensures.value) refl refl refl is
    (c.in_ok-walk_requests_behind.ensures.seen honest opened) c.if-claiming.false whole
