use Rattle.std.proofs.Common.{refl}
use Rattle.acq_book.specs.Lookups.{requests_behind_at}
use Rattle.acq_statement.proofs.Keeping.{all_claimed}
use Rattle.acq_statement.proofs.claims.asked_claims.Goals as goal

pub returns-clause-claims : goal.returns-clause-claims
returns-clause-claims g c = λ honest opened.
    let t = g.B.Book.tables c.args.book.now in
    let asked = c.args.asked.now in
    all_claimed asked.merchants.now asked.days (requests_behind_at t 0) _
    c.walk_requests_behind.new.visitor (c.in_ok-walk_requests_behind.ensures.seen honest opened)
    c.if-seen.false c.new.ensures.items refl refl refl
