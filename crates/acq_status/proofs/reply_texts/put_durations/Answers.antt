use Rattle.std.proofs.Common.{◌++◌, codes}
use Rattle.std.proofs.lemmas.Result.{on_ok_weaker}
use Rattle.acq_status.specs.Replies.{bounds, bucket, buckets, seconds_text, value_text}
use Rattle.acq_status.proofs.Appended.{appended}
use Rattle.acq_status.proofs.reply_texts.put_durations.Goals as goal

pub returns : goal.returns
returns c =
    let old = c.args.text.now.items in
    let d = c.args.durations.now in
    let two = buckets bounds d.within ++ bucket (codes "+Inf") d.replies in
    let three = two ++ codes "acqd_reply_seconds_sum " in
    let four = three ++ seconds_text d.microseconds in
    let five = four ++ codes "acqd_reply_seconds_count " in
    let put_two =
    appended old (buckets bounds d.within) (bucket (codes "+Inf") d.replies) _ _
    c.in_ok-put_buckets.ensures c.in_ok-put_bucket.ensures in
    let put_three =
    appended old two (codes "acqd_reply_seconds_sum ") _ _ put_two
    c.in_ok-extend_from_slice.ensures.items in
    let put_four =
    appended old three (seconds_text d.microseconds) _ _ put_three c.in_ok-put_seconds.ensures in
    let put_five =
    appended old four (codes "acqd_reply_seconds_count ") _ _ put_four
    c.in_ok-extend_from_slice-2.ensures.items in
    on_ok_weaker c.put_value.result (appended old five (value_text d.replies) _ _ put_five)
    c.put_value.ensures
