use Rattle.acq_statement.specs.TerminalTotals.{with_posting}
use Rattle.acq_statement.proofs.Setting.{set_next}
use Rattle.acq_statement.proofs.terminal_sums.add_posting.Goals as goal

pub loop-at-preserved : goal.loop-at-preserved
loop-at-preserved c =
    set_next (with_posting c.args.posting.now) c.args.sums.now c.loop-at.sums c.loop-at.at
    c.index-sums-at.result c.with_posting.result c.loop-at-test.true c.loop-at.invariant
    c.index-sums-at.is c.with_posting.ensures
