use Rattle.std.proofs.Common.{◌∙◌, ap, ◌++◌}
use Rattle.acq_book.specs.Lookups.{merchants_at}
use Rattle.acq_reports.specs.SettlementReport.{names_of}
use Rattle.acq_reports.proofs.Naming.{named}
use Rattle.acq_reports.proofs.names.merchant_names.Goals as goal

pub returns-clause-names : goal.returns-clause-names
returns-clause-names g c = λ honest opened.
    let rows = merchants_at (g.B.Book.tables c.args.book.now) in
    named rows _ c.walk_merchants.new.visitor (c.in_ok-walk_merchants.ensures.seen honest opened)
    c.if-seen.false
    ∙ ap (λ names. names ++ names_of rows) c.new.ensures.items
