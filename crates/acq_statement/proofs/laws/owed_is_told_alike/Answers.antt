use Rattle.std.proofs.Math.IntN.{pos, ◌-ℤ◌}
use Rattle.acq_statement.proofs.Owing.{regrouped, turned}
use Rattle.acq_statement.proofs.laws.owed_is_told_alike.Goals as goal

pub returns : goal.returns
returns c = record {
  net = λ t. turned (pos t.credits.amount -ℤ pos t.credit_reversals.amount)
      (pos t.debits.amount -ℤ pos t.debit_reversals.amount);
  due = λ t. regrouped (pos t.debits.amount) (pos t.debit_reversals.amount)
      (pos t.credits.amount) (pos t.credit_reversals.amount);
}
