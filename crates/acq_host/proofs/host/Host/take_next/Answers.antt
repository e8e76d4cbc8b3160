-- what taking the event gave
use Rattle.std.proofs.Common.{◌≡◌, false, is_ok, rules, refl, sym, subst}
use Rattle.acq_core.specs.Arrivals.{arrival_of}
use Rattle.acq_core.specs.Tables.{step_tables}
use Rattle.acq_book.specs.Calls.{Makes, MakesWithin}
use Rattle.acq_host.proofs.Chains.{counts_on}
use Rattle.acq_host.proofs.host.Host.take_next.Goals as goal

pub returns-clause-said : goal.returns-clause-said
returns-clause-said g c = search rules

pub returns-clause-tables : goal.returns-clause-tables
returns-clause-tables g c = c.in_ok-output.ensures.tables

pub returns-clause-left : goal.returns-clause-left
returns-clause-left g c = λ h o past. c.in_ok-output.ensures.left h o

pub returns-in_err-output-clause-tables : goal.returns-in_err-output-clause-tables
returns-in_err-output-clause-tables g c =
    let failed : is_ok c.from_residual-in_err-output.result ≡ false = search rules in
    subst (λ ok. Makes g.B.Book c.args.self.now c.take.new.self ok
    (step_tables (g.B.Book.tables c.args.self.now) (arrival_of c.args.event.now))) (sym failed)
    c.in_err-output.ensures.tables

pub returns-in_err-output-clause-left : goal.returns-in_err-output-clause-left
returns-in_err-output-clause-left g c = λ h o past. c.in_err-output.ensures.left h o

pub returns-in_err-output-clause-store : goal.returns-in_err-output-clause-store
returns-in_err-output-clause-store g c =
    counts_on c.from_residual-in_err-output.result c.in_err-output.field-0.0 _
    c.from_residual-in_err-output.ensures.1 refl c.in_err-output.ensures.store

pub returns-clause-store : goal.returns-clause-store
returns-clause-store g c = c.in_ok-output.ensures.store

pub returns-clause-within : goal.returns-clause-within
returns-clause-within g c = c.in_ok-output.ensures.within

pub returns-in_err-output-clause-within : goal.returns-in_err-output-clause-within
returns-in_err-output-clause-within g c =
    let failed : is_ok c.from_residual-in_err-output.result ≡ false = search rules in
    subst (λ ok. MakesWithin g.B.Book c.args.self.now c.take.new.self ok
    (step_tables (g.B.Book.tables c.args.self.now) (arrival_of c.args.event.now))) (sym failed)
    c.in_err-output.ensures.within
