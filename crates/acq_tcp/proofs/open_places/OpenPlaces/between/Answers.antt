-- the looks, and then the rounds
use Rattle.std.proofs.Common.{subst, sym}
use Rattle.std.proofs.lemmas.Result.{err_from_is_err_and}
use Rattle.acq_front.specs.Stops.{left_of}
use Rattle.acq_controls.specs.Aside.{Aside, aside_of}
use Rattle.acq_controls.proofs.Staying.{GoesOn}
use Rattle.acq_gateways.specs.Told.{told_of}
use Rattle.acq_rounds.specs.Reaching.{ReachesBy, ReachesSome}
use Rattle.acq_tcp.specs.Others.{beside_of}
use Rattle.acq_tcp.proofs.Beside.{beside_by, beside_some}
use Rattle.acq_tcp.proofs.Reaching.{looked_some, looked_then, tells_then}
use Rattle.acq_tcp.proofs.open_places.OpenPlaces.between.Goals as goal

pub returns-clause-reaches : goal.returns-clause-reaches
returns-clause-reaches g c = λ h o.
    let one = c.in_ok-look.ensures in
    let two = c.give_rounds.ensures in
    let was = two.was_honest h in
    let still = one.stays_open was o in
    let old = g.B.Book.tables c.args.host.now in
    let left = left_of g.B.Book c.give_rounds.new.host in
    let after = aside_of c.give_rounds.new.controls in
    let r = c.give_rounds.result in
    beside_by old left (beside_of c.args.others.now)
    (record { controls = after; gateways = told_of c.look.new.others.gateways })
    (one.told was o) r
    (subst (λ (a : Aside). ReachesBy old left (GoesOn old a after) r) one.controls
    (looked_then old (g.B.Book.tables c.look.new.host) left
    (aside_of c.look.new.others.controls) after r ((one.looked was o).tables still)
    (two.reaches h still)))

pub returns-clause-store : goal.returns-clause-store
returns-clause-store g c =
    let one = c.in_ok-look.ensures in
    let two = c.give_rounds.ensures in
    tells_then c.give_rounds.result _ _ _ one.store
    (λ no h o.
    let was = two.was_honest h in
    no h (one.stays_open was o)) two.store

pub returns-in_err-look-clause-reaches : goal.returns-in_err-look-clause-reaches
returns-in_err-look-clause-reaches g c h o =
    let one = c.in_err-look.ensures in
    let p = err_from_is_err_and c.from_residual.result c.from_residual.ensures.1 in
    let old = g.B.Book.tables c.args.host.now in
    let left = left_of g.B.Book c.look.new.host in
    let before = aside_of c.args.others.now.controls in
    rw p.1
    (beside_some old left (beside_of c.args.others.now) (beside_of c.look.new.others)
    (one.told h o)
    (subst (λ (a : Aside). ReachesSome old left (GoesOn old before a)) (sym one.controls)
    (looked_some old left before (one.looked h o))))
