use Rattle.std.proofs.Common.{◌∙◌, refl}
use Rattle.std.proofs.lemmas.Result.{err_from_is_err_and}
use Rattle.acq_front.specs.Stops.{left_of}
use Rattle.acq_controls.specs.Aside.{aside_of}
use Rattle.acq_front.proofs.StopsLeave.{none_stop}
use Rattle.acq_rounds.proofs.Together.{tells_on}
use Rattle.acq_tcp.proofs.Reaching.{reached_on, reaches_none, refused_on}
use Rattle.acq_tcp.proofs.tcp_server.TcpServer.take_own_lines.Goals as goal

pub returns-in_err-give_own_round-clause-reaches : goal.returns-in_err-give_own_round-clause-reaches
returns-in_err-give_own_round-clause-reaches g c = λ h o.
    let inv = c.loop.invariant in
    let one = c.in_err-give_own_round.ensures in
    let before = inv.0 (one.was_honest h) o in
    let p = err_from_is_err_and c.from_residual.result c.from_residual.ensures.1 in
    rw p.1
    (refused_on (g.B.Book.tables c.args.host.now) (left_of g.B.Book c.loop.host)
    (left_of g.B.Book c.give_own_round.new.host) (aside_of c.args.controls.now)
    (aside_of c.loop.controls) (aside_of c.give_own_round.new.controls) before.0
    c.in_err-give_own_round.field-0.0 (one.reaches h before.1))

pub loop-preserved : goal.loop-preserved
loop-preserved g c =
    let inv = c.loop.invariant in
    let one = c.in_ok-give_own_round.ensures in (
      (λ h o.
          let before = inv.0 (one.was_honest h) o in (
            reached_on (g.B.Book.tables c.args.host.now) (left_of g.B.Book c.loop.host)
                (left_of g.B.Book c.give_own_round.new.host) (aside_of c.args.controls.now)
                (aside_of c.loop.controls) (aside_of c.give_own_round.new.controls)
                before.0 (one.reaches h before.1),
            one.stays_open h before.1,
          )),
      (λ h. inv.1 (one.was_honest h)),
      one.store ∙ inv.2,
      (λ m given. inv.3 m (one.given_later m given)),
    )

pub loop-init : goal.loop-init
loop-init g c = (
  (λ h o. (
    reaches_none (left_of g.B.Book c.args.host.now) (aside_of c.args.controls.now)
        (none_stop g.B.Book g.met.B.Book.settled g.met.B.Book.stored c.args.host.now o),
    o,
  )),
  (λ h. h),
  refl,
  (λ m given. given),
)

pub returns-in_err-give_own_round-clause-store : goal.returns-in_err-give_own_round-clause-store
returns-in_err-give_own_round-clause-store g c =
    let inv = c.loop.invariant in
    let one = c.in_err-give_own_round.ensures in
    let p = err_from_is_err_and c.from_residual.result c.from_residual.ensures.1 in
    rw (p.1, p.2) (tells_on (Unit {0}) (Unit {0}) c.in_err-give_own_round.field-0.0 _ _ _ inv.2 refl
    (λ no h o. no h (inv.0 (one.was_honest h) o).1) one.store)

pub returns-clause-store : goal.returns-clause-store
returns-clause-store g c = c.loop.invariant.2

pub returns-in_err-give_own_round-clause-given_later : goal.returns-in_err-give_own_round-clause-given_later
returns-in_err-give_own_round-clause-given_later g c = λ m given.
    c.loop.invariant.3 m (c.in_err-give_own_round.ensures.given_later m given)
