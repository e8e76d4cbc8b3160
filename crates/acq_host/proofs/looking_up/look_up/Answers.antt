-- what was looked up is what the tables let the event know
use Rattle.std.proofs.Common.{◌≡◌, ◌∙◌, ap, subst, Result, Ok, Err}
use Rattle.std.specs.Prelude.{IfOk}
use Rattle.acq_core.specs.declared.looked.Looked.{Looked}
use Rattle.acq_core.specs.Known.{wanted_by}
use Rattle.acq_core.specs.Looking.{known_of}
use Rattle.acq_core.specs.Tables.{known_in}
use Rattle.acq_book.specs.declared.book_fault.BookFault.{BookFault}
use Rattle.acq_book.specs.Looked.{IsLooked}
use Rattle.acq_book.proofs.GroupChains.{gives_within_as, gives_within_then}
use Rattle.acq_host.proofs.LookedUp.{known_if}
use Rattle.acq_host.proofs.looking_up.look_up.Goals as goal

pub returns-clause-known : goal.returns-clause-known
returns-clause-known g c = λ o.
    let t = g.B.Book.tables c.args.book.now in
    let between = c.look_up.ensures.gives.looks.was_open o in
    let same = c.in_ok-today.ensures.looks.same between in
    let wanted = c.wanted_by-wanted.result in
    known_if t c.args.arrival.now wanted c.look_up.result
    (c.wanted_by-wanted.ensures
    ∙ ap (λ day. wanted_by day c.args.arrival.now) (c.in_ok-today.ensures.day between))
    (subst (λ t. IfOk c.look_up.result (IsLooked t wanted)) same (c.look_up.ensures.gives.value o))

pub returns-clause-within : goal.returns-clause-within
returns-clause-within g c =
    let book = g.B.Book in
    let t = book.tables c.args.book.now in
    let a = c.args.arrival.now in
    let today = c.in_ok-today.today in
    let wanted = c.wanted_by-wanted.result in
    let known : (r : Result Looked BookFault)
    → IfOk r (λ looked. (today ≡ t.day) × IsLooked t wanted looked)
    → IfOk r (λ looked. known_of looked ≡ known_in t a) =
    elim [
      | Ok looked ↦ (λ is. known_if {F = BookFault} t a wanted (Ok looked)
          (c.wanted_by-wanted.ensures ∙ ap (λ day. wanted_by day a) is.0) is.1)
      | Err e ↦ (λ is. tt)
    ] in
    gives_within_as book.tables book.is_honest book.is_within book.can_return
    (gives_within_then book.tables book.is_honest book.is_within book.can_return
    (λ t looked. IsLooked t wanted looked) c.look_up.ensures.gives.looks.was_honest
    c.in_ok-today.ensures.within c.look_up.ensures.within)
    (known c.look_up.result)
