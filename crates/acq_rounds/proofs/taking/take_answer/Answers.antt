-- an issuer's answer
use Rattle.std.proofs.Common.{◌∙◌, ap, true≢false, refl, subst, sym}
use Rattle.acq_front.specs.Turns.{ReplyFits}
use Rattle.acq_front.proofs.Turned.{reply_fits}
use Rattle.acq_rounds.specs.Said.{told_at}
use Rattle.acq_rounds.specs.Within.{TookAnswer}
use Rattle.acq_rounds.proofs.WithinGroups.{if_said, tells_said}
use Rattle.acq_rounds.proofs.taking.take_answer.Goals as goal

pub returns-clause-took : goal.returns-clause-took
returns-clause-took g c began n h w =
    let book = g.B.Book in
    let came = c.in_ok-output.ensures in
    let said = came.output_within began n h w in
    if_said (TookAnswer (g.C.Clock.may_give c.args.clock.now)
    (g.I.Issuer.may_say c.args.issuer.now) (book.tables c.args.host.now)
    (book.tables c.take.new.self) c.args.query.now) c.said_last.result c.in_ok-output.output
    c.said_last.ensures.told c.said_last.ensures.fit (λ s is fits. record {
      moment = c.now.result;
      given = c.now.ensures.given;
      verdict = c.answer-verdict.result;
      may = c.answer-verdict.ensures.said;
      told = is ∙ ap told_at said;
      fits = subst ReplyFits said fits;
      tables = came.within.made began n refl h w;
    })

pub returns-clause-store : goal.returns-clause-store
returns-clause-store g c =
    let came = c.in_ok-output.ensures in
    tells_said c.said_last.result _ came.store c.said_last.ensures.fault
    (λ broke began n h w.
    true≢false (sym (c.said_last.ensures.fits
    (reply_fits c.in_ok-output.output (came.reply_within began n h w))) ∙ broke))
