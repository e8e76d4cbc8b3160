use Rattle.acq_reports.specs.Faults.{is_settled}
use Rattle.acq_commands.proofs.FaultsTold.{report_tells, report_writes}
use Rattle.acq_commands.proofs.book_commands.report_on.Goals as goal

pub returns-clause-text : goal.returns-clause-text
returns-clause-text g c = λ h o.
    (c.write_report-written.result, c.told.ensures.same, c.write_report-written.ensures.text h o)

pub returns-clause-looks : goal.returns-clause-looks
returns-clause-looks g c =
    (is_settled c.write_report-written.result, c.write_report-written.ensures.looks)

pub returns-clause-writes : goal.returns-clause-writes
returns-clause-writes g c = rw c.told.ensures.same
    (report_writes c.write_report-written.result _ _ c.write_report-written.ensures.writes)

pub returns-clause-store : goal.returns-clause-store
returns-clause-store g c = rw c.told.ensures.same
    (report_tells g.B.Book c.args.book c.write_report-written.new.book
    c.write_report-written.result c.write_report-written.ensures.store)
