-- what is said of an event is what is said of it once it is read
use Rattle.std.proofs.Common.{◌≡◌, IfOk, subst}
use Rattle.acq_core.specs.Tables.{known_in}
use Rattle.acq_explain.specs.Explained.{explained}
use Rattle.acq_explain.proofs.writing.explained_event.Goals as goal

pub returns-clause-text : goal.returns-clause-text
returns-clause-text g c = λ o.
    subst (λ a. IfOk c.explained_arrival.result (λ text.
    text.items ≡ explained (known_in (g.B.Book.tables c.args.book.now) a) a))
    c.in_ok-arrival.ensures (c.explained_arrival.ensures.text o)
