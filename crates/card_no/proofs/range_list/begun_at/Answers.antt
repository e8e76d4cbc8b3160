use Rattle.std.proofs.Common.{leb, leb-true, leb-false, arith, rules}
use Rattle.std.proofs.lemmas.List.Sorted.{IsPartitionPoint-from_clause}
use Rattle.card_no.proofs.NearestRange.{begun_first}
use Rattle.card_no.proofs.range_list.begun_at.Goals as goal

pub returns-clause-begun : goal.returns-clause-begun
returns-clause-begun c =
    let n = c.number-number.result in
    let first = begun_first c.args.ranges.now n c.requires in
    let point = IsPartitionPoint-from_clause
    (λ r. leb r.low n) _ _ c.partition_point.ensures.partitioned first
    (λ a r q k. search rules) in
    λ k d ge lt. let low = leb-true _ _ (point.0 k d ge lt) in
    omega (arith, low, c.number-number.ensures.value)

pub returns-clause-above : goal.returns-clause-above
returns-clause-above c =
    let n = c.number-number.result in
    let first = begun_first c.args.ranges.now n c.requires in
    let point = IsPartitionPoint-from_clause
    (λ r. leb r.low n) _ _ c.partition_point.ensures.partitioned first
    (λ a r q k. search rules) in
    λ k d ge lt. let low = leb-false _ _ (point.1 k d ge lt) in
    omega (arith, low, c.number-number.ensures.value)
