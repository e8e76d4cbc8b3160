-- the lines of the postings so far were put
use Rattle.std.proofs.Common.{◌≡◌, ◌++◌, flat_map, take}
use Rattle.acq_inquiry.specs.PostingLines.{posting_line}
use Rattle.acq_inquiry.proofs.posting_lines.put_posting_lines.Given as goal

abbrev pub invariant-loop-posted : goal.invariant-loop-posted
invariant-loop-posted l =
    l.text.items
    ≡ l.fn.text.items ++ flat_map (posting_line l.row) (take l.posted-index l.postings)
