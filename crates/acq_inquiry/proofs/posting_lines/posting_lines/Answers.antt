use Rattle.std.proofs.Common.{◌∙◌, ◌++◌, ap₂, refl}
use Rattle.std.specs.Prelude.{flat_map}
use Rattle.acq_book.specs.Lookups.{postings_above_at}
use Rattle.acq_inquiry.specs.PostingLines.{posting_line}
use Rattle.acq_inquiry.proofs.Gathered.{all_posted}
use Rattle.acq_inquiry.proofs.posting_lines.posting_lines.Goals as goal

pub returns-clause-text : goal.returns-clause-text
returns-clause-text g c = λ honest opened.
    let row = c.args.row.now in
    let lines = flat_map (posting_line row) in
    let above = postings_above_at (g.B.Book.tables c.args.book.now) row.key.merchant row.day in
    all_posted row (above c.of-number.result.0) _ c.walk_postings_above.new.visitor refl
    (c.in_ok-walk_postings_above.ensures.seen honest opened) c.if-lines.false
    ∙ ap₂ (λ text n. text ++ lines (above n))
    (c.in_ok-put_posting_lines.ensures
    ∙ ap₂ (λ text postings. text ++ lines postings) c.new-text.ensures.items
    c.of-number.ensures.postings)
    c.of-number.ensures.number
