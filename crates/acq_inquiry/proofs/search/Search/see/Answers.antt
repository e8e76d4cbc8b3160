use Rattle.std.proofs.Common.{◌∙◌, refl}
use Rattle.acq_inquiry.proofs.Searched.{seen_on, seen_whole}
use Rattle.acq_inquiry.proofs.search.Search.see.Goals as goal

pub returns-clause-goes : goal.returns-clause-goes
returns-clause-goes g c = λ honest opened is.
    seen_on (g.B.Book.tables c.args.book.now) c.args.self.now _
    c.walk_requests_behind.new.visitor refl c.new.ensures.items refl is
    (c.in_ok-walk_requests_behind.ensures.seen honest opened) c.if-seeing.false _
    (rw (c.as_slice-references.ensures.value) at c.in_ok-with_references.ensures)

pub returns-clause-whole : goal.returns-clause-whole
returns-clause-whole g c = λ honest opened is whole.
    c.in_ok-with_references.ensures.seen
    ∙ seen_whole (g.B.Book.tables c.args.book.now) c.args.self.now _
    c.walk_requests_behind.new.visitor refl c.new.ensures.items refl is
    (c.in_ok-walk_requests_behind.ensures.seen honest opened) c.if-seeing.false whole
