use Rattle.std.proofs.Common.{refl}
use Rattle.acq_inquiry.proofs.Kept.{kept_on}
use Rattle.acq_inquiry.proofs.kept_postings.KeptPostings.go_on_in.Goals as goal

pub returns-clause-goes : goal.returns-clause-goes
returns-clause-goes g c = λ honest opened all.
    kept_on (g.B.Book.tables c.args.book.now) (g.met.B.Book.past c.args.book.now opened)
    c.args.self.now.merchant c.args.self.now.references.now c.args.day c.args.self.now.days.now all
    _ _ c.of-number.ensures.number c.of-number.ensures.postings _
    c.walk_postings_above.new.visitor c.in_ok-postings.ensures refl refl
    (c.in_ok-walk_postings_above.ensures.seen honest opened) c.if-keeping.false _ refl refl refl
