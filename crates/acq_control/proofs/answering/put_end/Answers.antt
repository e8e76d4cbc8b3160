use Rattle.std.proofs.Common.{◌≡◌, true, sym, refl, ◌==◌, rules}
use Rattle.acq_control.proofs.Ending.{ended, on_err, on_err_too, on_ok_too, unlooked}
use Rattle.acq_control.proofs.answering.put_end.Goals as goal

pub returns-in_err-today-clause-refused : goal.returns-in_err-today-clause-refused
returns-in_err-today-clause-refused g c =
    on_err c.from_residual.result
    (unlooked g.B.Book c.args.day c.args.moment c.in_err-today.ensures.looks)

pub returns-clause-does : goal.returns-clause-does
returns-clause-does g c =
    let same : c.in_ok-today.today ≡ c.args.day = search rules in
    let this : g.B.Book.is_honest c.day.new.self → g.B.Book.is_open c.args.host.now →
    true ≡ ((g.B.Book.tables c.args.host.now).day == c.args.day) = λ h o.
    let looks = c.in_ok-today.ensures.looks in
    let is = c.in_ok-today.ensures.value (looks.stays_open refl h o) in
    rw (sym is, same) (search rules) in
    let looked = c.in_ok-today.ensures.looks in
    on_ok_too c.put_event.result
    (ended g.B.Book c.args.day c.args.moment looked g.met.B.Book.honest true this)
    c.put_event.ensures.does

pub returns-clause-refused : goal.returns-clause-refused
returns-clause-refused g c =
    let same : c.in_ok-today.today ≡ c.args.day = search rules in
    let this : g.B.Book.is_honest c.day.new.self → g.B.Book.is_open c.args.host.now →
    true ≡ ((g.B.Book.tables c.args.host.now).day == c.args.day) = λ h o.
    let looks = c.in_ok-today.ensures.looks in
    let is = c.in_ok-today.ensures.value (looks.stays_open refl h o) in
    rw (sym is, same) (search rules) in
    on_err_too c.put_event.result
    (λ some. (
      some.0,
      ended g.B.Book c.args.day c.args.moment c.in_ok-today.ensures.looks
          g.met.B.Book.honest some.0 this some.1,
    ))
    c.put_event.ensures.refused
