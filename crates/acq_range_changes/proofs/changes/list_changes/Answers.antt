use Rattle.std.proofs.Common.{◌≡◌, ◌∙◌, ◌++◌, ◌+◌, ◌<◌, true, List, length, drop, get_or, sym, ap}
use Rattle.std.proofs.Common.{subst}
use Rattle.card_no.specs.declared.range.Range.{Range}
use Rattle.card_no.specs.Ranges.{are_ranges, is_before}
use Rattle.acq_range_changes.specs.Changes.{changes_between, in_turn, others}
use Rattle.acq_range_changes.proofs.Turns.{passed_over, ranges_filter, turn_taken}
use Rattle.acq_range_changes.proofs.changes.list_changes.Goals as goal
use Rattle.acq_range_changes.proofs.changes.list_changes.Goals.{else-not-is_listed}
use Rattle.acq_range_changes.proofs.changes.list_changes.Goals.{then-not-is_listed+in_ok-put_drops+in_ok-put_add}

pub loop-range-preserved : goal.loop-range-preserved
loop-range-preserved c =
    let old = c.args.old.now in
    let new = c.args.new.now in
    let left = c.loop-range.left.now in
    let k = c.loop-range.range-index in
    let r = c.range-item.result in
    let rows = c.as_slice-range-items.ensures.value in
    let within = subst (λ (l : List Range). k < length l) rows c.loop-range-test.true in
    let is = subst (λ (l : List Range). r ≡ get_or l k r) rows c.range-item.is in
    let so_far = c.loop-range.invariant.turns in
    elim c.if-not-is_listed.branch [
      | then-not-is_listed+in_ok-put_drops+in_ok-put_add w ↦
          let is_behind = ap (λ rest. rest.now) w.left-is
          ∙ (w.split_at.ensures.back ∙ w.up_to.ensures.behind) in
          let is_near = w.split_at.ensures.front ∙ w.up_to.ensures.near in
          let is_after = ap (λ events. events.items) w.events-is ∙ w.in_ok-put_add.ensures in
          record {
            ranges = subst (λ (l : List Range). are_ranges l ≡ true) (sym is_behind)
                (ranges_filter (is_before r) left c.loop-range.invariant.ranges);
            turns = turn_taken old new left w.split_at.result.0.now c.if-not-is_listed.left.now k r
                (changes_between old new) c.loop-range.events.items w.put_drops.new.events.items
                c.if-not-is_listed.events.items within is (sym w.if-not-is_listed.ensures) so_far
                is_near is_behind w.in_ok-put_drops.ensures is_after;
          }
      | else-not-is_listed w ↦
          let same = ap (λ events. events.items) w.events-is in
          let rest = ap (λ rows. rows.now) w.left-is in
          record {
            ranges = subst (λ (l : List Range). are_ranges l ≡ true) (sym rest)
                c.loop-range.invariant.ranges;
            turns = so_far
                ∙ ap (λ come. c.loop-range.events.items ++ in_turn (others new left) come)
                (passed_over old new k r within is (sym w.if-not-is_listed.ensures))
                ∙ ap (λ events. events ++ in_turn (others new left) (others old (drop (k + 1) new)))
                (sym same)
                ∙ ap (λ l. c.if-not-is_listed.events.items
                ++ in_turn (others new l) (others old (drop (k + 1) new))) (sym rest);
          }
    ]
