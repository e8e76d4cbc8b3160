use Rattle.std.proofs.Common.{◌-◌, ◌++◌, arith, drop, refl, take}
use Rattle.std.proofs.lemmas.Result.{err_from_is_err_and}
use Rattle.acq_core.specs.Tables.{outputs}
use Rattle.acq_commands.proofs.GroupsTaken.{IsNext, first_taken, took_group, whole_next}
use Rattle.acq_commands.proofs.taking_events.take_each.Goals as goal

pub loop-taken-preserved : goal.loop-taken-preserved
loop-taken-preserved g c =
    let so = c.loop-taken.invariant.0 in
    let events = c.args.events.now in
    let at = c.loop-taken.taken in
    let end = c.end_behind-end.result in
    let group = take (end - at) (drop at events) in
    let more = outputs (g.B.Book.tables c.loop-taken.host) group in
    let next : IsNext c.args.group events at end group = record {
      in_hand = c.loop-taken-test.true;
      whole = c.loop-taken.invariant.1;
      ends = c.end_behind-end.ensures.end;
      more = c.end_behind-end.ensures.more;
      is = refl;
    } in (
      (
        so.0 ++ more,
        took_group c.args.group events at end group next g.B.Book c.args.host.now
            c.loop-taken.host c.take_group.new.self so.0 so.1 more c.in_ok-said.ensures.tables
            (λ h o. refl) c.in_ok-said.ensures.store,
      ),
      whole_next c.args.group events at end group next,
      omega (arith, c.end_behind-end.ensures.end),
    )

pub returns-in_err-said-clause-stopped : goal.returns-in_err-said-clause-stopped
returns-in_err-said-clause-stopped g c = λ h opened.
    let so = c.loop-taken.invariant.0 in
    let events = c.args.events.now in
    let at = c.loop-taken.taken in
    let end = c.end_behind-end.result in
    let group = take (end - at) (drop at events) in
    let next : IsNext c.args.group events at end group = record {
      in_hand = c.loop-taken-test.true;
      whole = c.loop-taken.invariant.1;
      ends = c.end_behind-end.ensures.end;
      more = c.end_behind-end.ensures.more;
      is = refl;
    } in
    let p = err_from_is_err_and c.from_residual.result c.from_residual.ensures.1 in
    rw p.1 (first_taken c.args.group events at end group next g.B.Book c.args.host.now
    c.loop-taken.host c.take_group.new.self so.0 so.1 h opened g.met.B.Book.settled
    c.in_err-said.ensures.tables)

pub returns-in_err-said-clause-was_honest : goal.returns-in_err-said-clause-was_honest
returns-in_err-said-clause-was_honest g c = λ h.
    c.loop-taken.invariant.0.1.was_honest (c.in_err-said.ensures.tables.was_honest h)
