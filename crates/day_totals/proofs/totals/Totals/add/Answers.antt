use Rattle.std.proofs.Common.{rules}
use Rattle.day_totals.proofs.TotalsOfPostings.{add-sums}
use Rattle.day_totals.proofs.totals.Totals.add.Goals as goal

pub returns-in-Credit-clause-sums : goal.returns-in-Credit-clause-sums
returns-in-Credit-clause-sums c =
    λ postings e. add-sums c.args.self.now _ postings c.args.leg c.args.amount
    (search rules) e

pub returns-in-CreditReversal-clause-sums : goal.returns-in-CreditReversal-clause-sums
returns-in-CreditReversal-clause-sums c =
    λ postings e. add-sums c.args.self.now _ postings c.args.leg c.args.amount
    (search rules) e

pub returns-in-Debit-clause-sums : goal.returns-in-Debit-clause-sums
returns-in-Debit-clause-sums c =
    λ postings e. add-sums c.args.self.now _ postings c.args.leg c.args.amount
    (search rules) e

pub returns-in-DebitReversal-clause-sums : goal.returns-in-DebitReversal-clause-sums
returns-in-DebitReversal-clause-sums c =
    λ postings e. add-sums c.args.self.now _ postings c.args.leg c.args.amount
    (search rules) e
