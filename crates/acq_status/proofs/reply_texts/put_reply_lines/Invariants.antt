-- the codes so far were put
use Rattle.std.proofs.Common.{◌≡◌, ◌++◌}
use Rattle.std.specs.List.{flat_map, range_with_len}
use Rattle.acq_status.specs.Replies.{code_line}
use Rattle.acq_status.proofs.reply_texts.put_reply_lines.Given as goal

abbrev pub invariant-loop-code : goal.invariant-loop-code
invariant-loop-code l =
    l.text.items ≡ l.fn.text.items
    ++ flat_map (code_line l.before l.behind l.counts) (range_with_len 0 l.code)
