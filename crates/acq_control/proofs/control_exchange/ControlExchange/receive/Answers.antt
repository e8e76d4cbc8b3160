use Rattle.std.proofs.Common.{◌≤◌, length, take}
use Rattle.std.proofs.lemmas.List.{take-append-le}
use Rattle.acq_control.specs.Ends as turns
use Rattle.acq_control.specs.Exchanges.{held_of}
use Rattle.acq_control.proofs.HeldLines.{holds_read}
use Rattle.acq_control.proofs.control_exchange.ControlExchange.receive.Goals as goal

pub returns-in-Some-clause-received : goal.returns-in-Some-clause-received
returns-in-Some-clause-received g c =
    let received = rw c.in-Some.is at c.in_ok-read.ensures.received in
    let bound : c.in-Some.n ≤ length c.read.new.buffer =
    rw c.in-Some.is at c.in_ok-read.ensures.bound in
    holds_read (held_of c.args.self.now) (turns.held_of c.feed.new.self)
    (g.L.Line.received c.args.self.now.line) (g.L.Line.received c.read.new.self) _
    (take c.in-Some.n c.read.new.buffer) received c.feed.ensures.held
    (take-append-le c.in-Some.n c.read.new.buffer _ bound)
