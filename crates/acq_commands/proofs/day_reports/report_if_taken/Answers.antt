use Rattle.std.proofs.Common.{refl}
use Rattle.acq_reports.specs.Faults.{is_settled}
use Rattle.acq_commands.proofs.FaultsTold.{report_tells, report_writes}
use Rattle.acq_commands.proofs.day_reports.report_if_taken.Goals as goal

pub returns-in-Err-clause-stopped : goal.returns-in-Err-clause-stopped
returns-in-Err-clause-stopped g c = rw c.in-Err.is (refl, refl)

pub returns-in-Ok-clause-stopped : goal.returns-in-Ok-clause-stopped
returns-in-Ok-clause-stopped g c = rw c.in-Ok.is tt

pub returns-in-Ok-clause-looks : goal.returns-in-Ok-clause-looks
returns-in-Ok-clause-looks g c =
    (is_settled c.write_reports-written.result, c.write_reports-written.ensures.looks)

pub returns-in-Err-clause-written : goal.returns-in-Err-clause-written
returns-in-Err-clause-written g c = rw c.in-Err.is tt

pub returns-in-Ok-clause-written : goal.returns-in-Ok-clause-written
returns-in-Ok-clause-written g c = rw c.in-Ok.is
    (λ h o. (
      c.write_reports-written.result,
      c.told.ensures.same,
      c.write_reports-written.ensures.texts h o,
    ))

pub returns-in-Err-clause-store : goal.returns-in-Err-clause-store
returns-in-Err-clause-store g c = rw c.in-Err.is tt

pub returns-in-Ok-clause-store : goal.returns-in-Ok-clause-store
returns-in-Ok-clause-store g c =
    rw (c.in-Ok.is, c.told.ensures.same) (report_tells g.B.Book c.args.book.now
    c.write_reports-written.new.book c.write_reports-written.result
    c.write_reports-written.ensures.store)

pub returns-in-Err-clause-writes : goal.returns-in-Err-clause-writes
returns-in-Err-clause-writes g c = rw c.in-Err.is tt

pub returns-in-Ok-clause-writes : goal.returns-in-Ok-clause-writes
returns-in-Ok-clause-writes g c =
    rw (c.in-Ok.is, c.told.ensures.same) (report_writes c.write_reports-written.result _ _
    c.write_reports-written.ensures.writes)

pub returns-in-Err-clause-fault : goal.returns-in-Err-clause-fault
returns-in-Err-clause-fault g c = rw c.in-Err.is tt

pub returns-in-Ok-clause-fault : goal.returns-in-Ok-clause-fault
returns-in-Ok-clause-fault g c = rw c.in-Ok.is c.told.ensures.fault

pub returns-in-Err-clause-unasked : goal.returns-in-Err-clause-unasked
returns-in-Err-clause-unasked g c = rw c.in-Err.is refl

pub returns-in-Ok-clause-unasked : goal.returns-in-Ok-clause-unasked
returns-in-Ok-clause-unasked g c = rw c.in-Ok.is tt

pub returns-in-Err-clause-unwritten : goal.returns-in-Err-clause-unwritten
returns-in-Err-clause-unwritten g c = rw c.in-Err.is refl

pub returns-in-Ok-clause-unwritten : goal.returns-in-Ok-clause-unwritten
returns-in-Ok-clause-unwritten g c = rw c.in-Ok.is tt
