use Rattle.acq_front.specs.Stops.{left_of}
use Rattle.acq_front.proofs.StopsLeave.{none_stop}
use Rattle.acq_controls.specs.Aside.{aside_of}
use Rattle.acq_tcp.proofs.Reaching.{reaches_none, stay_reaches}
use Rattle.acq_tcp.proofs.tcp_server.TcpServer.give_control_rounds.Goals as goal

pub returns-in_default-clause-reaches : goal.returns-in_default-clause-reaches
returns-in_default-clause-reaches g c h o =
    reaches_none (left_of g.B.Book c.args.host.now) (aside_of c.args.controls.now)
    (none_stop g.B.Book g.met.B.Book.settled g.met.B.Book.stored c.args.host.now o)

pub returns-clause-reaches : goal.returns-clause-reaches
returns-clause-reaches g c h o =
    stay_reaches (g.B.Book.tables c.args.host.now) (left_of g.B.Book c.give_rounds.new.host)
    (aside_of c.args.controls.now) (aside_of c.admit.new.controls)
    (aside_of c.give_rounds.new.controls) c.give_rounds.result c.admit.ensures.stays
    (c.give_rounds.ensures.reaches h o)
