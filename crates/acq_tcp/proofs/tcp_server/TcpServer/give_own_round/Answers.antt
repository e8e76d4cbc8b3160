use Rattle.acq_front.specs.Stops.{left_of}
use Rattle.acq_controls.specs.Aside.{aside_of}
use Rattle.acq_tcp.proofs.Reaching.{program_reaches}
use Rattle.acq_tcp.proofs.tcp_server.TcpServer.give_own_round.Goals as goal

pub returns-clause-reaches : goal.returns-clause-reaches
returns-clause-reaches g c h o =
    rw c.end_control.ensures
    (program_reaches (g.B.Book.tables c.args.host.now)
    (left_of g.B.Book c.give_round-ended.new.host) (aside_of c.args.controls.now)
    (aside_of c.give_round-ended.new.controls) (aside_of c.part.new.self) c.part.ensures.stays
    c.in-Some.ended (c.in-Some.ensures.reaches h o))
