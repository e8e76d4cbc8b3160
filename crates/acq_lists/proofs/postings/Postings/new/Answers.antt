use Rattle.std.proofs.Common.{◌∙◌, ap, sym, arith}
use Rattle.std.specs.Map.{lookup}
use Rattle.acq_lists.specs.Keys.{day_eq}
use Rattle.acq_lists.specs.Sums.{sums_at}
use Rattle.acq_lists.specs.Sums.{sums_in}
use Rattle.acq_lists.proofs.Days.{none_yet}
use Rattle.acq_lists.proofs.postings.Postings.new.Goals as goal

pub invariant_of-result : goal.invariant_of-result
invariant_of-result c = record {
  sums =
      λ k. ap (λ es. sums_at (lookup (day_eq k) es)) c.with_hasher.ensures.empty
      ∙ (none_yet k ∙ sym (ap (λ rows. sums_in rows k) c.new.ensures.items));
  room_rows = omega (arith, c.new.ensures.len);
  room_sums = omega arith;
}
