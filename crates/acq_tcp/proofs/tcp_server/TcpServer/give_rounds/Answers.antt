-- the rounds of control connections, and then those of the host's own lines
use Rattle.acq_front.specs.Stops.{left_of}
use Rattle.acq_controls.specs.Aside.{aside_of}
use Rattle.acq_tcp.proofs.Reaching.{reached_by, tells_then}
use Rattle.acq_tcp.proofs.tcp_server.TcpServer.give_rounds.Goals as goal

pub returns-clause-reaches : goal.returns-clause-reaches
returns-clause-reaches g c = λ h o.
    let one = c.in_ok-give_control_rounds.ensures in
    let two = c.take_own_lines.ensures in
    let was = two.was_honest h in
    let still = one.stays_open was o in
    reached_by (g.B.Book.tables c.args.host.now) (left_of g.B.Book c.give_control_rounds.new.host)
    (left_of g.B.Book c.take_own_lines.new.host) (aside_of c.args.controls.now)
    (aside_of c.give_control_rounds.new.controls) (aside_of c.take_own_lines.new.controls)
    (one.reaches was o) c.take_own_lines.result (two.reaches h still)

pub returns-clause-store : goal.returns-clause-store
returns-clause-store g c =
    let one = c.in_ok-give_control_rounds.ensures in
    let two = c.take_own_lines.ensures in
    tells_then c.take_own_lines.result _ _ _ one.store
    (λ no h o.
    let was = two.was_honest h in
    no h (one.stays_open was o)) two.store
