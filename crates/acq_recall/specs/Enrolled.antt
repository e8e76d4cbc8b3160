-- What is recalled of how many terminals and ranges there are.
use Rattle.std.specs.Prelude.{◌≡◌, List, IfSome, length}
use Rattle.card_no.specs.declared.range.Range.{Range}
use Rattle.acq_core.specs.declared.terminal.Terminal.{Terminal}
use Rattle.acq_recall.specs.declared.enrolled_counts.EnrolledCounts.{EnrolledCounts}

-- each count that is kept is that of these rows
pub record RecallsEnrolled (counts : EnrolledCounts) (installed : List Terminal)
    (listed : List Range) : Type 0 where
  pub terminals : IfSome counts.terminals (λ n. n ≡ length installed)
  pub ranges : IfSome counts.ranges (λ n. n ≡ length listed)
