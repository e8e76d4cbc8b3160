use Rattle.std.proofs.Common.{Some}
use Rattle.acq_history.specs.PartyHistory.{history_of}
use Rattle.acq_history.proofs.BalanceOfReconciliation.{balanced}
use Rattle.acq_history.proofs.posting_laws.reconciliations_balance_exactly.Goals as goal

pub returns : goal.returns
returns c = λ m opening day es r. balanced opening (history_of opening (Some m) es) r day
