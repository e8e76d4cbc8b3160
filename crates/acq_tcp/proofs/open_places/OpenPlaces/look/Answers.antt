-- one look, and then the other
use Rattle.std.proofs.Common.{◌∙◌}
use Rattle.acq_front.specs.Stops.{left_of}
use Rattle.acq_tcp.proofs.Reaching.{looked_twice, tells_then}
use Rattle.acq_tcp.proofs.open_places.OpenPlaces.look.Goals as goal

pub returns-clause-looked : goal.returns-clause-looked
returns-clause-looked g c = λ h o.
    let one = c.in_ok-look_at_book.ensures in
    let two = c.tell_gateway.ensures in
    let was = two.was_honest h in
    let still = one.stays_open was o in
    looked_twice (g.B.Book.tables c.args.host.now) (left_of g.B.Book c.look_at_book.new.host)
    (left_of g.B.Book c.tell_gateway.new.host) ((one.looked was o).tables still)
    (two.looked h still)

pub returns-clause-store : goal.returns-clause-store
returns-clause-store g c =
    let one = c.in_ok-look_at_book.ensures in
    let two = c.tell_gateway.ensures in
    tells_then c.tell_gateway.result _ _ _ one.store
    (λ no h o.
    let was = two.was_honest h in
    no h (one.stays_open was o)) two.store

pub returns-clause-told : goal.returns-clause-told
returns-clause-told g c = λ h o t steps is f.
    let one = c.in_ok-look_at_book.ensures in
    let two = c.tell_gateway.ensures in
    let was = two.was_honest h in
    let still = one.stays_open was o in
    two.told h still t steps ((one.looked was o).tables still ∙ is) f
