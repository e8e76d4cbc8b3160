use Rattle.std.proofs.Common.{refl}
use Rattle.acq_core.specs.declared.change.Change.TheVariants as change
use Rattle.acq_sql_writes.specs.Written.{with_merchant}
use Rattle.acq_sql_writes.specs.Refused.{AnyTables, HasTables, TakesMerchant}
use Rattle.acq_sql_changes.proofs.Outcomes.{ends}
use Rattle.acq_sql_changes.proofs.Progress.{unwritten}
use Rattle.acq_sql_changes.proofs.TakenTables.{takes_merchant}
use Rattle.acq_sql_changes.proofs.enrolments.enrol.Goals as goal

pub returns : goal.returns
returns g c =
    let m = c.args.merchant.now in
    ends (change.AddMerchant m) AnyTables (unwritten _) c.add_merchant.result
    (with_merchant m) c.add_merchant.ensures.writes
    (HasTables (TakesMerchant m)) c.add_merchant.ensures.fails
    (λ t taken rows. (t, taken.holds.runs, takes_merchant m taken, rows)) (λ t m d. refl)
