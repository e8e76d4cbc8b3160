use Rattle.std.proofs.Common.{[], ◌++◌, ◌∷◌, Err, refl, sym, ap, ◌∙◌, arith}
use Rattle.std.proofs.lemmas.Result.{err_from_is_err_and}
use Rattle.std.proofs.lemmas.List.{length_push}
use Rattle.acq_commands.specs.Listening.{Traffic, with_served}
use Rattle.acq_front.specs.Stops.{left_of, open_at}
use Rattle.acq_serving.proofs.ServedWeaker.{says_same}
use Rattle.acq_front.proofs.StopsLeave.{none_stop}
use Rattle.acq_faults.proofs.ToldLater.{tells_later}
use Rattle.acq_commands.proofs.ConnectionsServed.{weaker_one, says_open, one_more, passes_more}
use Rattle.acq_commands.proofs.listening.serve_all.Goals as goal

pub loop-init : goal.loop-init
loop-init g c = (
  (λ h o. ([], refl, refl, refl, o)),
  (λ h. h),
  (λ q v said. said),
  (λ m given. given),
  refl,
)

pub loop-preserved : goal.loop-preserved
loop-preserved g c =
    let inv = c.loop.invariant in
    let one = c.in_ok-serve_one.ensures in
    let give = g.C.Clock.may_give c.args.clock.now in
    let say = g.I.Issuer.may_say c.args.issuer.now in
    let old = g.B.Book.tables c.args.host.now in
    let mid = g.B.Book.tables c.loop.host in
    let new = g.B.Book.tables c.serve_one.new.host in (
      (λ h o.
          let so = inv.0 (one.was_honest h) o in
          let s = one.served h so.4 in
          let still = one.stays_open h so.4 in (
            so.0 ++ s.0 ∷ [],
            (let size = length_push so.0 s.0 in omega (arith, size, so.1)),
            one_more give say old mid new so.0 s.0 so.2
                (weaker_one (g.C.Clock.may_give c.loop.clock) give inv.3
                (g.I.Issuer.may_say c.loop.issuer) say inv.2
                (left_of g.B.Book c.serve_one.new.host) (open_at new)
                (says_open (left_of g.B.Book c.serve_one.new.host) still) mid s.0 s.1),
            passes_more _ _ _ so.0 s.0 so.3 s.2,
            still,
          )),
      (λ h. inv.1 (one.was_honest h)),
      (λ q v said. inv.2 q v (one.said_later q v said)),
      (λ m given. inv.3 m (one.given_later m given)),
      one.store ∙ inv.4,
    )

pub returns-in_err-serve_one : goal.returns-in_err-serve_one
returns-in_err-serve_one g c = record {
  served = λ h o.
      let p = err_from_is_err_and c.from_residual.result c.from_residual.ensures.1 in
      let inv = c.loop.invariant in
      let one = c.in_err-serve_one.ensures in
      let give = g.C.Clock.may_give c.args.clock.now in
      let say = g.I.Issuer.may_say c.args.issuer.now in
      let mid = g.B.Book.tables c.loop.host in
      let left = left_of g.B.Book c.serve_one.new.host in
      let so = inv.0 (one.was_honest h) o in
      let s = one.served h so.4 in
      rw (p.1, p.2) (
        so.0,
        s.0,
        mid,
        so.2,
        weaker_one (g.C.Clock.may_give c.loop.clock) give inv.3 (g.I.Issuer.may_say c.loop.issuer)
            say inv.2 left left (says_same left) mid s.0 s.1,
        sym s.3,
        s.2 ∙ ap (λ (t : Traffic). with_served t s.0) so.3,
      );
  store =
      let p = err_from_is_err_and c.from_residual.result c.from_residual.ensures.1 in
      let inv = c.loop.invariant in
      let one = c.in_err-serve_one.ensures in
      rw (p.1, p.2) (tells_later (Err c.in_err-serve_one.field-0.0) _ _ _ inv.4
      (λ no h o. no h (inv.0 (one.was_honest h) o).4) one.store);
}

pub returns : goal.returns
returns g c = record {
  served = λ h o.
      let so = c.loop.invariant.0 h o in (
        so.0,
        (let size = so.1 in omega (arith, size)),
        so.2,
        none_stop g.B.Book g.met.B.Book.settled g.met.B.Book.stored c.loop.host so.4,
        so.3,
      );
  store = c.loop.invariant.4;
}
