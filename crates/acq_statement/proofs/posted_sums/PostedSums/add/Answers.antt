use Rattle.std.proofs.Common.{◌∙◌, ap}
use Rattle.acq_statement.specs.Gathered.{sums_in}
use Rattle.acq_statement.specs.TerminalTotals.{with_posting}
use Rattle.acq_statement.proofs.SumsOfTerminals.{sums_posted}
use Rattle.acq_statement.proofs.posted_sums.PostedSums.add.Goals as goal

pub returns-clause-sums : goal.returns-clause-sums
returns-clause-sums c = λ terminal.
    let posting = c.args.row.now.1 in
    ap (λ l. sums_in l terminal) c.post.ensures
    ∙ sums_posted posting terminal c.add_terminal.new.sums.items c.in_ok-add_terminal.ensures.has
    ∙ ap (with_posting posting) (c.in_ok-add_terminal.ensures.same terminal)
