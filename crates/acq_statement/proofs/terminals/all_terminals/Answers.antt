use Rattle.std.proofs.Common.{◌∙◌, ap, ◌++◌}
use Rattle.acq_book.specs.Lookups.{terminals_at}
use Rattle.acq_statement.proofs.Keeping.{all_kept}
use Rattle.acq_statement.proofs.terminals.all_terminals.Goals as goal

pub returns-clause-rows : goal.returns-clause-rows
returns-clause-rows g c = λ honest opened.
    let rows = terminals_at (g.B.Book.tables c.args.book.now) in
    all_kept rows _ c.walk_terminals.new.visitor
    (c.in_ok-walk_terminals.ensures.seen honest opened) c.if-seen.false
    ∙ ap (λ before. before ++ rows) c.new.ensures.items
