-- what is decided on an event is what is decided on it once it is read
use Rattle.std.proofs.Common.{◌≡◌, IfOk, subst}
use Rattle.acq_core.specs.Changes.{change_for}
use Rattle.acq_core.specs.Tables.{known_in, step_output}
use Rattle.acq_book.specs.Calls.{GivesWithin}
use Rattle.acq_host.specs.Runs.{IsDecided}
use Rattle.acq_reasons.specs.Reasons.{reason_for}
use Rattle.acq_host.proofs.deciding.decide.Goals as goal

pub returns-clause-output : goal.returns-clause-output
returns-clause-output g c = λ o.
    subst (λ a. IfOk c.decide_arrival.result (λ x.
    x.0 ≡ step_output (g.B.Book.tables c.args.book.now) a))
    c.in_ok-arrival.ensures (c.decide_arrival.ensures.output o)

pub returns-clause-change : goal.returns-clause-change
returns-clause-change g c = λ o.
    subst (λ a. IfOk c.decide_arrival.result (λ x.
    x.1 ≡ change_for (known_in (g.B.Book.tables c.args.book.now) a) a))
    c.in_ok-arrival.ensures (c.decide_arrival.ensures.change o)

pub returns-clause-reason : goal.returns-clause-reason
returns-clause-reason g c = λ o.
    subst (λ a. IfOk c.decide_arrival.result (λ x.
    x.2 ≡ reason_for (known_in (g.B.Book.tables c.args.book.now) a) a))
    c.in_ok-arrival.ensures (c.decide_arrival.ensures.reason o)

pub returns-clause-within : goal.returns-clause-within
returns-clause-within g c =
    subst (λ a. GivesWithin g.B.Book c.args.book.now c.decide_arrival.new.book
    c.decide_arrival.result (IsDecided (g.B.Book.tables c.args.book.now) a))
    c.in_ok-arrival.ensures c.decide_arrival.ensures.within
