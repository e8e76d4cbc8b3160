-- the rows that were gone over, and their lines
use Rattle.std.proofs.Common.{drop, refl}
use Rattle.acq_gateway_lines.proofs.Gathered.{has_gathered, slice_is}
use Rattle.acq_gateway_lines.proofs.slice.gateway_slice.Goals as goal

pub returns-clause-slice : goal.returns-clause-slice
returns-clause-slice g c = λ honest opened.
    let t = g.B.Book.tables c.args.book.now in
    let rows = c.args.rows in
    let walk = c.in_ok-walk_requests_behind.ensures in
    let text = c.in_ok-text.ensures in
    let start = c.behind-gathering in
    let was = text.looks.was_honest honest in
    let still = walk.looks.stays_open refl was opened in
    let got = has_gathered (drop rows t.requests) start.result
    c.walk_requests_behind.new.visitor (walk.seen was opened) c.if-gathering.false in
    slice_is t _ c.args.moment c.args.messages.now rows c.args.most start.result
    c.walk_requests_behind.new.visitor _ (walk.looks.same still) start.ensures.rows
    start.ensures.left start.ensures.told got refl
    (rw c.as_slice-2.ensures.value at (text.text honest still))
