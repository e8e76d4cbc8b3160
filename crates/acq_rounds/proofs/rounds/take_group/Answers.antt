use Rattle.std.proofs.Common.{map, subst}
use Rattle.acq_host.proofs.Groups.{Laws}
use Rattle.acq_front.specs.Stops.{left_of}
use Rattle.acq_rounds.specs.Groups.{asked}
use Rattle.acq_rounds.specs.Places.{boxed}
use Rattle.acq_rounds.specs.Said.{told_by_all, turns_in}
use Rattle.acq_rounds.specs.Taking.{TookNone}
use Rattle.acq_rounds.proofs.Together.{group_taken, on_err, untouched}
use Rattle.acq_rounds.proofs.rounds.take_group.Goals as goal

pub returns-clause-took : goal.returns-clause-took
returns-clause-took g c h o =
    let book = g.B.Book in
    let view = boxed g.L.Line g.T.Talk in
    let may_give = g.C.Clock.may_give c.args.clock.now in
    let may_say = g.I.Issuer.may_say c.args.issuer.now in
    let before = map view c.args.places.now in
    group_taken may_give may_say (book.tables c.args.host.now)
    (left_of book c.take_together.new.host) (turns_in c.in_ok-turns.turns.items)
    (told_by_all c.in_ok-said.said.items) before (map view c.hand_out.new.places)
    (c.in_ok-said.ensures.took h o) c.in_ok-turns.ensures.turns
    c.hand_out.ensures.out

pub returns-in_err-said-clause-refused : goal.returns-in_err-said-clause-refused
returns-in_err-said-clause-refused g c h o =
    let book = g.B.Book in
    let view = boxed g.L.Line g.T.Talk in
    let may_give = g.C.Clock.may_give c.args.clock.now in
    let may_say = g.I.Issuer.may_say c.args.issuer.now in
    let none = TookNone may_give may_say (book.tables c.args.host.now)
    (left_of book c.take_together.new.host) in
    on_err c.from_residual-in_err-said.result (none (asked (map view c.args.places.now)))
    (subst none c.in_ok-turns.ensures.turns (c.in_err-said.ensures.refused h o))

pub returns-in_err-turns-clause-refused : goal.returns-in_err-turns-clause-refused
returns-in_err-turns-clause-refused g c h o =
    let book = g.B.Book in
    let view = boxed g.L.Line g.T.Talk in
    let may_give = g.C.Clock.may_give c.args.clock.now in
    let may_say = g.I.Issuer.may_say c.args.issuer.now in
    let turns = asked (map view c.args.places.now) in
    let laws : Laws book = record {
      honest = g.met.B.Book.honest;
      settled = g.met.B.Book.settled;
      stored = g.met.B.Book.stored;
      past = g.met.B.Book.past;
    } in
    on_err c.from_residual.result
    (TookNone may_give may_say (book.tables c.args.host.now) (left_of book c.args.host.now)
    turns)
    (untouched book laws may_give may_say c.args.host.now turns o)
