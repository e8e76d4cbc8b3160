use Rattle.std.proofs.Common.{◌∙◌, ap, ◌++◌}
use Rattle.acq_book.specs.Lookups.{ranges_at}
use Rattle.acq_range_changes.proofs.Collecting.{all_gathered}
use Rattle.acq_range_changes.proofs.gathering.book_ranges.Goals as goal

pub returns-clause-ranges : goal.returns-clause-ranges
returns-clause-ranges g c = λ honest opened.
    let rows = ranges_at (g.B.Book.tables c.args.book.now) in
    all_gathered rows _ c.walk_ranges.new.visitor
    (c.in_ok-walk_ranges.ensures.seen honest opened) c.if-seen.false
    ∙ ap (λ ranges. ranges ++ rows) c.new.ensures
