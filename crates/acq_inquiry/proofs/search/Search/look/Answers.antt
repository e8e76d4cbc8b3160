use Rattle.std.proofs.Common.{◌∙◌, refl}
use Rattle.acq_inquiry.proofs.Searched.{looked_on, looked_whole}
use Rattle.acq_inquiry.proofs.search.Search.look.Goals as goal

pub returns-clause-goes : goal.returns-clause-goes
returns-clause-goes g c = λ honest opened is.
    let copied = c.in_ok-next.ensures in
    looked_on (g.B.Book.tables c.args.book.now) c.args.self.now _
    c.walk_requests_behind.new.visitor refl
    (c.in_ok-places.ensures.items ∙ c.as_slice.ensures.value) refl is
    (c.in_ok-walk_requests_behind.ensures.seen honest opened) c.if-looking.false _ copied.asks
    copied.references copied.seen refl refl copied.days

pub returns-clause-whole : goal.returns-clause-whole
returns-clause-whole g c = λ honest opened is whole.
    looked_whole (g.B.Book.tables c.args.book.now) c.args.self.now _
    c.walk_requests_behind.new.visitor refl
    (c.in_ok-places.ensures.items ∙ c.as_slice.ensures.value) refl is
    (c.in_ok-walk_requests_behind.ensures.seen honest opened) c.if-looking.false whole
