use Rattle.std.proofs.Common.{[]}
use Rattle.acq_statement.specs.TerminalTotals.{day_postings}
use Rattle.acq_statement.proofs.Posting.{all_posted}
use Rattle.acq_statement.proofs.terminal_sums.terminal_sums.Goals as goal

pub returns-clause-sums : goal.returns-clause-sums
returns-clause-sums g c = λ honest opened.
    let t = g.B.Book.tables c.args.book.now in
    all_posted c.args.terminals.now []
    (day_postings t c.args.merchant c.args.day) _ c.walk_postings_above.new.visitor
    (c.in_ok-walk_postings_above.ensures.seen honest opened) c.in-Ok.ensures
