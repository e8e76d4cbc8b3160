use Rattle.std.proofs.Common.{◌∙◌, ap, ◌++◌}
use Rattle.acq_book.specs.Lookups.{merchants_at}
use Rattle.acq_statement.proofs.Enrolling.{all_enrolled}
use Rattle.acq_statement.proofs.enrolled.enrolled_merchants.Goals as goal

pub returns-clause-rows : goal.returns-clause-rows
returns-clause-rows g c = λ honest opened.
    let rows = merchants_at (g.B.Book.tables c.args.book.now) in
    all_enrolled rows _ c.walk_merchants.new.visitor
    (c.in_ok-walk_merchants.ensures.seen honest opened) c.if-seen.false
    ∙ ap (λ before. before ++ rows) c.new.ensures.items
