-- with the buckets that are left all of them were put
use Rattle.std.proofs.Common.{◌≡◌, ◌++◌, drop}
use Rattle.acq_status.specs.Replies.{bounds, buckets}
use Rattle.acq_status.proofs.reply_texts.put_buckets.Given as goal

abbrev pub invariant-loop-place : goal.invariant-loop-place
invariant-loop-place l =
    l.text.items ++ buckets (drop l.place bounds) (drop l.place l.durations.within)
    ≡ l.fn.text.items ++ buckets bounds l.durations.within
