use Rattle.std.proofs.Common.{leb, rules}
use Rattle.std.proofs.lemmas.List.Sorted.{IsPartitionPoint-from_clause}
use Rattle.card_no.proofs.NearestRange.{begun_first}
use Rattle.acq_range_changes.proofs.Parted.{parted_rows}
use Rattle.acq_range_changes.proofs.changes.up_to.Goals as goal

pub returns-clause-near : goal.returns-clause-near
returns-clause-near c =
    let end = c.args.range.now.high in
    let first = begun_first c.args.rows.now end c.requires in
    let point = IsPartitionPoint-from_clause
    (λ r. leb r.low end) _ _ c.partition_point.ensures.partitioned first
    (λ a r q k. search rules) in
    (parted_rows c.args.range.now c.args.rows.now c.partition_point.result point.0 point.1).0

pub returns-clause-behind : goal.returns-clause-behind
returns-clause-behind c =
    let end = c.args.range.now.high in
    let first = begun_first c.args.rows.now end c.requires in
    let point = IsPartitionPoint-from_clause
    (λ r. leb r.low end) _ _ c.partition_point.ensures.partitioned first
    (λ a r q k. search rules) in
    (parted_rows c.args.range.now c.args.rows.now c.partition_point.result point.0 point.1).1
