use Rattle.std.proofs.Common.{ltb, ltb-true, ltb-false, rules}
use Rattle.std.proofs.lemmas.List.Sorted.{IsPartitionPoint-from_clause}
use Rattle.card_no.proofs.FirstInOrder.{begun_below_first}
use Rattle.card_no.proofs.range_list.begun_below.Goals as goal

pub returns-clause-begun : goal.returns-clause-begun
returns-clause-begun c =
    let n = c.args.number in
    let first = begun_below_first c.args.ranges.now n c.requires in
    let point = IsPartitionPoint-from_clause
    (λ r. ltb r.low n) _ _ c.partition_point.ensures.partitioned first
    (λ a r q k. search rules) in
    λ k d ge lt. ltb-true _ _ (point.0 k d ge lt)

pub returns-clause-later : goal.returns-clause-later
returns-clause-later c =
    let n = c.args.number in
    let first = begun_below_first c.args.ranges.now n c.requires in
    let point = IsPartitionPoint-from_clause
    (λ r. ltb r.low n) _ _ c.partition_point.ensures.partitioned first
    (λ a r q k. search rules) in
    λ k d ge lt. ltb-false _ _ (point.1 k d ge lt)
