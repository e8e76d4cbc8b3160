use Rattle.std.proofs.Common.{◌-◌, ◌++◌, arith, drop, refl, take}
use Rattle.std.proofs.lemmas.Result.{err_from_is_err_and}
use Rattle.acq_core.specs.Tables.{outputs}
use Rattle.acq_commands.specs.Streams.{Stream}
use Rattle.acq_commands.proofs.GroupsTaken.{IsNext, stops_there, took_group, whole_next}
use Rattle.acq_commands.proofs.LinesWritten.{lines_on}
use Rattle.acq_commands.proofs.replaying.take_all.Goals as goal

pub loop-taken-preserved : goal.loop-taken-preserved
loop-taken-preserved g c =
    let so = c.loop-taken.invariant.0 in
    let events = c.args.events.now in
    let at = c.loop-taken.taken in
    let end = c.end_behind-end.result in
    let group = take (end - at) (drop at events) in
    let t = g.B.Book.tables c.loop-taken.host in
    let next : IsNext c.args.group events at end group = record {
      in_hand = c.loop-taken-test.true;
      whole = c.loop-taken.invariant.2;
      ends = c.end_behind-end.ensures.end;
      more = c.end_behind-end.ensures.more;
      is = refl;
    } in
    let made = c.in_ok-take_next.ensures.made in
    let sent = g.K.Sink.sent c.args.output.now in (
      (
        so.0 ++ outputs t group,
        took_group c.args.group events at end group next g.B.Book c.args.host.now
            c.loop-taken.host c.take_next.new.host so.0 so.1 (outputs t group) made
            (λ h o. refl) c.in_ok-take_next.ensures.store,
        λ h opened.
            let was = made.was_honest h in
            let between = so.1.stays_open was opened in
            lines_on sent (g.K.Sink.sent c.loop-taken.output) (g.K.Sink.sent c.take_next.new.output)
            so.0 (outputs t group) (so.2 was opened) (c.in_ok-take_next.ensures.sent h between),
      ),
      omega (arith, c.in_ok-take_next.ensures.writes, c.loop-taken.invariant.1),
      whole_next c.args.group events at end group next,
      omega (arith, c.end_behind-end.ensures.end),
    )

pub returns-in_err-take_next-clause-stops : goal.returns-in_err-take_next-clause-stops
returns-in_err-take_next-clause-stops g c = λ h opened.
    let so = c.loop-taken.invariant.0 in
    let events = c.args.events.now in
    let at = c.loop-taken.taken in
    let end = c.end_behind-end.result in
    let group = take (end - at) (drop at events) in
    let next : IsNext c.args.group events at end group = record {
      in_hand = c.loop-taken-test.true;
      whole = c.loop-taken.invariant.2;
      ends = c.end_behind-end.ensures.end;
      more = c.end_behind-end.ensures.more;
      is = refl;
    } in
    let sent : Stream = record {
      before = g.K.Sink.sent c.args.output.now;
      after = g.K.Sink.sent c.take_next.new.output;
    } in
    let p = err_from_is_err_and c.from_residual.result c.from_residual.ensures.1 in
    rw (p.1, p.2) (stops_there c.args.group events at end group next g.B.Book c.args.host.now
    c.loop-taken.host c.take_next.new.host so.0 so.1 h opened g.met.B.Book.settled sent
    (g.K.Sink.sent c.loop-taken.output) c.in_err-take_next.field-0.0 (λ was. so.2 was opened)
    c.in_err-take_next.ensures.fault)
