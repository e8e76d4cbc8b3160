-- a group that was kept, or not, or given up
use Rattle.acq_host.proofs.Groups.{Laws}
use Rattle.acq_front.specs.Stops.{left_of}
use Rattle.acq_rounds.specs.Said.{told_by_all, turns_in}
use Rattle.acq_rounds.specs.Taking.{TookNone}
use Rattle.acq_rounds.proofs.Together.{given_up, on_err, was_kept, was_not_kept}
use Rattle.acq_rounds.proofs.taking.take_together.Goals as goal

pub returns-in_err-keep-in-Ok-clause-refused : goal.returns-in_err-keep-in-Ok-clause-refused
returns-in_err-keep-in-Ok-clause-refused g c h o =
    let book = g.B.Book in
    let may_give = g.C.Clock.may_give c.args.clock.now in
    let may_say = g.I.Issuer.may_say c.args.issuer.now in
    let turns = turns_in c.args.turns.items in
    let laws : Laws book = record {
      honest = g.met.B.Book.honest;
      settled = g.met.B.Book.settled;
      stored = g.met.B.Book.stored;
      past = g.met.B.Book.past;
    } in
    on_err c.from_residual-in_err-keep-in-Ok.result
    (TookNone may_give may_say (book.tables c.args.host.now) (left_of book c.keep.new.self)
    turns)
    (was_not_kept book laws may_give may_say c.args.host.now c.begin.new.self
    c.take_each.new.host c.in_ok-begin.ensures.begins c.in-Ok.ensures.stays turns
    (told_by_all c.in-Ok.said.items) c.in-Ok.ensures.took c.keep.new.self
    c.in_err-keep-in-Ok.ensures.keeps h o)

pub returns-in_ok-keep-in-Ok-clause-took : goal.returns-in_ok-keep-in-Ok-clause-took
returns-in_ok-keep-in-Ok-clause-took g c h o =
    let book = g.B.Book in
    let may_give = g.C.Clock.may_give c.args.clock.now in
    let may_say = g.I.Issuer.may_say c.args.issuer.now in
    let turns = turns_in c.args.turns.items in
    let laws : Laws book = record {
      honest = g.met.B.Book.honest;
      settled = g.met.B.Book.settled;
      stored = g.met.B.Book.stored;
      past = g.met.B.Book.past;
    } in
    was_kept book laws may_give may_say c.args.host.now c.begin.new.self c.take_each.new.host
    c.in_ok-begin.ensures.begins c.in-Ok.ensures.stays turns (told_by_all c.in-Ok.said.items)
    c.in-Ok.ensures.took c.keep.new.self c.in_ok-keep-in-Ok.ensures.keeps h o

pub returns-in-Err-clause-refused : goal.returns-in-Err-clause-refused
returns-in-Err-clause-refused g c h o =
    let book = g.B.Book in
    let may_give = g.C.Clock.may_give c.args.clock.now in
    let may_say = g.I.Issuer.may_say c.args.issuer.now in
    let turns = turns_in c.args.turns.items in
    let laws : Laws book = record {
      honest = g.met.B.Book.honest;
      settled = g.met.B.Book.settled;
      stored = g.met.B.Book.stored;
      past = g.met.B.Book.past;
    } in
    given_up book laws may_give may_say c.args.host.now c.begin.new.self c.take_each.new.host
    c.in_ok-begin.ensures.begins c.give_up.new.self turns c.in-Err.ensures.stays
    c.give_up.ensures h o
