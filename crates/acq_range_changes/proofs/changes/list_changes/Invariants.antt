-- what is left of the old ranges are ranges, and the events of them and of the new ranges to come
-- stand behind the events so far
use Rattle.std.proofs.Common.{◌≡◌, ◌++◌, drop, true}
use Rattle.card_no.specs.Ranges.{are_ranges}
use Rattle.acq_range_changes.specs.Changes.{changes_between, in_turn, others}
use Rattle.acq_range_changes.proofs.changes.list_changes.Given as goal

abbrev pub invariant-loop-range : goal.invariant-loop-range
invariant-loop-range l = record {
  ranges : are_ranges l.left ≡ true;
  turns : changes_between l.old l.new
      ≡ l.events.items
      ++ in_turn (others l.new l.left) (others l.old (drop l.range-index l.new));
}
