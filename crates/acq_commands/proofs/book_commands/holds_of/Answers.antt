use Rattle.acq_reports.specs.Faults.{is_settled}
use Rattle.acq_commands.proofs.FaultsTold.{report_counts, report_writes}
use Rattle.acq_commands.proofs.book_commands.holds_of.Goals as goal

pub returns-clause-text : goal.returns-clause-text
returns-clause-text g c = λ h o.
    (c.open_holds-written.result, c.told.ensures.same, c.open_holds-written.ensures.text h o)

pub returns-clause-looks : goal.returns-clause-looks
returns-clause-looks g c =
    (is_settled c.open_holds-written.result, c.open_holds-written.ensures.looks)

pub returns-clause-writes : goal.returns-clause-writes
returns-clause-writes g c = rw c.told.ensures.same
    (report_writes c.open_holds-written.result _ _ c.open_holds-written.ensures.writes)

pub returns-clause-store : goal.returns-clause-store
returns-clause-store g c = rw c.told.ensures.same
    (report_counts c.open_holds-written.result _ _ c.open_holds-written.ensures.store)
