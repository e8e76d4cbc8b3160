use Rattle.std.proofs.Common.{◌++◌, codes}
use Rattle.std.proofs.lemmas.Result.{on_ok_weaker}
use Rattle.acq_status.specs.Replies.{duration_samples, reply_lines}
use Rattle.acq_status.specs.Texts.{about}
use Rattle.acq_status.specs.declared.figure.Figure.TheVariants.{Replies, ReplySeconds}
use Rattle.acq_status.proofs.Appended.{appended}
use Rattle.acq_status.proofs.reply_texts.put_reply_metrics.Goals as goal

pub returns : goal.returns
returns c =
    let old = c.args.text.now.items in
    let s = c.in-Some.serving in
    let lines = reply_lines (codes "acqd_replies_total{code=\"") (codes "\"} ") s.replies in
    let two = about Replies ++ lines in
    let three = two ++ about ReplySeconds in
    let put_two =
    appended old (about Replies) lines _ _ c.in_ok-put_about.ensures
    c.in_ok-put_reply_lines.ensures in
    let put_three =
    appended old two (about ReplySeconds) _ _ put_two c.in_ok-put_about-2.ensures in
    rw c.in-Some.is
    (on_ok_weaker c.put_durations.result
    (appended old three (duration_samples s.durations) _ _ put_three) c.put_durations.ensures)
