use Rattle.acq_front.specs.Stops.{left_of}
use Rattle.acq_front.proofs.StopsLeave.{none_stop}
use Rattle.acq_controls.specs.Aside.{aside_of}
use Rattle.acq_tcp.proofs.Reaching.{program_reaches, reaches_none}
use Rattle.acq_tcp.proofs.control_server.ControlServer.give_round.Goals as goal

pub returns-in_default-clause-reaches : goal.returns-in_default-clause-reaches
returns-in_default-clause-reaches g c h o =
    reaches_none (left_of g.B.Book c.args.host.now) (aside_of c.args.controls.now)
    (none_stop g.B.Book g.met.B.Book.settled g.met.B.Book.stored c.args.host.now o)

pub returns-in_default-2-clause-reaches : goal.returns-in_default-2-clause-reaches
returns-in_default-2-clause-reaches g c h o =
    reaches_none (left_of g.B.Book c.args.host.now) (aside_of c.args.controls.now)
    (none_stop g.B.Book g.met.B.Book.settled g.met.B.Book.stored c.args.host.now o)

pub returns-clause-reaches : goal.returns-clause-reaches
returns-clause-reaches g c h o =
    rw c.end_control.ensures
    (program_reaches (g.B.Book.tables c.args.host.now)
    (left_of g.B.Book c.give_round-ended.new.host) (aside_of c.args.controls.now)
    (aside_of c.give_round-ended.new.controls) (aside_of c.part.new.self) c.part.ensures.stays
    c.in-Some.ended (c.in-Some.ensures.reaches h o))
