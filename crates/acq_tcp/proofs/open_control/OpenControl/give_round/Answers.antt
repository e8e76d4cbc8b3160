use Rattle.std.proofs.Common.{◌≡◌, Ok, Some, refl, rules}
use Rattle.acq_front.specs.Stops.{left_of}
use Rattle.acq_front.proofs.StopsLeave.{none_stop}
use Rattle.acq_control.specs.declared.control_round.ControlRound.TheVariants.{Waits}
use Rattle.acq_controls.specs.Aside.{aside_of}
use Rattle.acq_tcp.proofs.Reaching.{reached_still, reaches_none, tells_late}
use Rattle.acq_tcp.proofs.open_control.OpenControl.give_round.Goals as goal

pub returns-then-not-self-clause-reaches : goal.returns-then-not-self-clause-reaches
returns-then-not-self-clause-reaches g c = λ h o.
    reached_still c.end_late.result _ _
    (reaches_none (left_of g.B.Book c.args.host.now) (aside_of c.args.controls.now)
    (none_stop g.B.Book g.met.B.Book.settled g.met.B.Book.stored c.args.host.now o))

pub returns-then-not-self-clause-store : goal.returns-then-not-self-clause-store
returns-then-not-self-clause-store g c =
    tells_late c.end_late.result _ refl c.end_late.ensures

pub returns-in-Some-Ok-Waits-clause-reaches : goal.returns-in-Some-Ok-Waits-clause-reaches
returns-in-Some-Ok-Waits-clause-reaches g c h o =
    let is : c.round-went.result ≡ Some (Ok Waits) = search rules in
    reached_still c.end_late-in-Some-Ok-Waits.result _ _
    (rw is at (c.round-went.ensures.reaches h o))
