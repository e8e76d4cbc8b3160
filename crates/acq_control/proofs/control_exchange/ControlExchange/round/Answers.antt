use Rattle.std.proofs.Common.{◌≡◌, ◌∙◌, Ok, ap, refl, subst, sym, rules}
use Rattle.std.specs.Prelude.{Result}
use Rattle.acq_book.specs.declared.book_fault.BookFault.{BookFault}
use Rattle.acq_front.specs.Stops.{left_of}
use Rattle.acq_front.proofs.StopsLeave.{none_stop}
use Rattle.acq_control.specs.declared.control_turn.ControlTurn.{ControlTurn}
use Rattle.acq_control.specs.declared.control_turn.ControlTurn.TheVariants.{Prepares, Took, Waits}
use Rattle.acq_control.specs.Ends.{End, Steps, end_of}
use Rattle.acq_control.specs.Lines.{IsInLine}
use Rattle.acq_control.specs.Exchanges.{held_of, passed, taken_of, unmade_of, unsent_of}
use Rattle.acq_control.proofs.Rounds.{moved_on, none_left, prepares_on, reads_on, takes_on}
use Rattle.acq_control.proofs.Rounds.{writes_on}
use Rattle.acq_control.proofs.control_exchange.ControlExchange.round.Goals as goal

pub returns-in-Took-clause-goes : goal.returns-in-Took-clause-goes
returns-in-Took-clause-goes g c = λ h o.
    let give = g.C.Clock.may_give c.args.clock.now in
    let tables = g.B.Book.tables c.args.host.now in
    let left = left_of g.B.Book c.turn.new.host in
    let it = c.args.self.now in
    let none = none_left c.unsent.result.now (unsent_of it) c.is_empty.result c.is_empty.ensures
    c.if-not-is_empty.false c.unsent.ensures in
    let took : c.turn.result ≡ Ok (Took c.in-Took.wish) = search rules in
    let steps = subst (λ (r : Result ControlTurn BookFault). Steps give c.args.serving tables left
    (end_of it.conversation) (end_of c.turn.new.self) r) took (c.turn.ensures.steps h o) in
    rw none (takes_on give c.args.serving tables left (g.L.Line.received it.line)
    (g.L.Line.sent it.line) (end_of it.conversation) (end_of c.turn.new.self) steps.0
    c.in-Took.wish steps.1 steps.2 (c.is_making.ensures c.if-is_making.false))

pub returns-in-Prepares-clause-goes : goal.returns-in-Prepares-clause-goes
returns-in-Prepares-clause-goes g c = λ h o.
    let give = g.C.Clock.may_give c.args.clock.now in
    let tables = g.B.Book.tables c.args.host.now in
    let left = left_of g.B.Book c.turn.new.host in
    let it = c.args.self.now in
    let prepares : c.turn.result ≡ Ok Prepares = search rules in
    let steps = subst (λ (r : Result ControlTurn BookFault). Steps give c.args.serving tables left
    (end_of it.conversation) (end_of c.turn.new.self) r) prepares (c.turn.ensures.steps h o) in
    prepares_on give c.args.serving tables left (g.L.Line.received it.line)
    (g.L.Line.sent it.line) (end_of it.conversation) (end_of c.turn.new.self) steps

pub receive-requires-clause-within : goal.receive-requires-clause-within
receive-requires-clause-within g c =
    let waits : c.turn.result ≡ Ok Waits = search rules in
    let same = c.turn.ensures.waits waits in
    subst (λ (e : End). IsInLine e.held.kept) (sym same.1) same.0

pub receive-requires-clause-written : goal.receive-requires-clause-written
receive-requires-clause-written g c =
    let it = c.args.self.now in
    let none = none_left c.unsent.result.now (unsent_of it) c.is_empty.result c.is_empty.ensures
    c.if-not-is_empty.false c.unsent.ensures in
    let waits : c.turn.result ≡ Ok Waits = search rules in
    ap (λ (e : End). e.unsent) (c.turn.ensures.waits waits).1 ∙ none

pub returns-in-Waits-clause-goes : goal.returns-in-Waits-clause-goes
returns-in-Waits-clause-goes g c = λ h o.
    let give = g.C.Clock.may_give c.args.clock.now in
    let tables = g.B.Book.tables c.args.host.now in
    let left = left_of g.B.Book c.turn.new.host in
    let it = c.args.self.now in
    let waits : c.turn.result ≡ Ok Waits = search rules in
    let steps = subst (λ (r : Result ControlTurn BookFault). Steps give c.args.serving tables left
    (end_of it.conversation) (end_of c.turn.new.self) r) waits (c.turn.ensures.steps h o) in
    let came = c.receive.ensures.received in
    moved_on give c.args.serving tables left (passed g.L.Line.received g.L.Line.sent it)
    (passed g.L.Line.received g.L.Line.sent c.receive.new.self) c.receive.result
    c.receive.ensures.untaken
    (reads_on give c.args.serving tables left (g.L.Line.received it.line) (g.L.Line.sent it.line)
    (end_of it.conversation) (end_of c.turn.new.self)
    (passed g.L.Line.received g.L.Line.sent c.receive.new.self) came.0 steps.0 came.1 came.2
    c.receive.ensures.sent c.receive.ensures.unsent c.receive.ensures.unmade
    c.receive.ensures.taken)

pub returns-then-not-is_empty-clause-goes : goal.returns-then-not-is_empty-clause-goes
returns-then-not-is_empty-clause-goes g c = λ h o.
    let give = g.C.Clock.may_give c.args.clock.now in
    let tables = g.B.Book.tables c.args.host.now in
    let left = left_of g.B.Book c.args.host.now in
    let it = c.args.self.now in
    let sent = c.send.ensures.sent in
    moved_on give c.args.serving tables left (passed g.L.Line.received g.L.Line.sent it)
    (passed g.L.Line.received g.L.Line.sent c.send.new.self) c.send.result c.send.ensures.untaken
    (rw (
      c.send.ensures.received,
      c.send.ensures.held,
      c.send.ensures.unmade,
      c.send.ensures.taken,
      sent.1,
      sent.2,
    )
    (writes_on give c.args.serving tables left (g.L.Line.received it.line) (g.L.Line.sent it.line)
    (held_of it) (unsent_of it) (unmade_of it) (taken_of it) sent.0 refl
    (none_stop g.B.Book g.met.B.Book.settled g.met.B.Book.stored c.args.host.now o)))
