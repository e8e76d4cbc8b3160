use Rattle.acq_book.specs.Lookups.{requests_behind_at}
use Rattle.acq_inquiry.proofs.Searched.{copied_one}
use Rattle.acq_inquiry.proofs.rows_at.copy_at.Goals as goal

pub returns-clause-rows : goal.returns-clause-rows
returns-clause-rows g c = λ honest opened.
    copied_one (requests_behind_at (g.B.Book.tables c.args.book.now) c.args.place)
    c.args.copying.now c.walk_requests_behind.new.visitor
    (c.in_ok-walk_requests_behind.ensures.seen honest opened) c.if-copying.false
