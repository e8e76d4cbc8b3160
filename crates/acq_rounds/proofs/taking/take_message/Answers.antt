-- one message, with its issuer's answer or without
use Rattle.std.proofs.Common.{◌∙◌, [], ◌∷◌, true, true≢false, ap, is_ok, refl, subst, sym}
use Rattle.acq_core.specs.declared.event.Event.TheVariants.{Answer, Frame}
use Rattle.acq_core.specs.Arrivals.{arrival_of}
use Rattle.acq_core.specs.Tables.{step_output, step_tables}
use Rattle.acq_front.specs.Turns.{ReplyFits}
use Rattle.acq_front.proofs.Turned.{reply_fits}
use Rattle.acq_rounds.specs.Acts.{Message}
use Rattle.acq_rounds.specs.Said.{told_at, told_by}
use Rattle.acq_rounds.specs.Within.{TookAnswer, TookWithin}
use Rattle.acq_rounds.specs.declared.said.Said.TheVariants.{Asked}
use Rattle.acq_rounds.proofs.WithinGroups.{if_both, if_said, stays_broken, stays_call}
use Rattle.acq_rounds.proofs.WithinGroups.{taken_alone, taken_asking, taken_waiting, tells_said}
use Rattle.acq_rounds.proofs.WithinGroups.{took_told}
use Rattle.acq_rounds.proofs.taking.take_message.Goals as goal

pub returns-then-has_answer-clause-took : goal.returns-then-has_answer-clause-took
returns-then-has_answer-clause-took g c began n h w =
    let book = g.B.Book in
    let may_give = g.C.Clock.may_give c.args.clock.now in
    let may_say = g.I.Issuer.may_say c.args.issuer.now in
    let old = c.args.host.now in
    let came = c.in_ok-output.ensures in
    let next = c.take_answer.ensures in
    let query = c.in-Ask.query in
    let was = next.stays.was_honest h in
    let mid = came.within.stays began n refl was w in
    let between = came.within.made began n refl was w in
    if_both (TookAnswer (g.C.Clock.may_give c.now.new.self)
    (g.I.Issuer.may_say c.has_answer.new.self) (book.tables c.take.new.self)
    (book.tables c.take_answer.new.host) query)
    (λ s. TookWithin book may_give may_say old c.take_answer.new.host
    (Message c.args.message.items ∷ []) (told_by s ∷ [])) c.take_answer.result
    (λ s took.
    let answer = Answer took.moment query.merchant query.reference took.verdict in
    let same = ap (λ t. step_output t (arrival_of answer)) between in
    let said = step_output (step_tables (book.tables old)
    (arrival_of (Frame c.now.result c.from_vec.result))) (arrival_of answer) in
    took_told book may_give may_say old c.take_answer.new.host _ s said
    (took.told ∙ ap told_at same) refl
    (taken_asking may_give may_say (book.tables old) c.now.result c.from_vec.result
    c.args.message.items c.from_vec.ensures c.now.ensures.given took.moment query took.verdict
    said (sym (came.output_within began n was w) ∙ c.in-Ask.is)
    (c.now.ensures.later took.moment took.given)
    (c.has_answer.ensures.later query took.verdict took.may) refl (subst ReplyFits same took.fits))
    (took.tables ∙ ap (λ t. step_tables t (arrival_of answer)) between))
    (next.took began n h mid)

pub returns-else-has_answer-clause-took : goal.returns-else-has_answer-clause-took
returns-else-has_answer-clause-took g c began n h w =
    let book = g.B.Book in
    let may_give = g.C.Clock.may_give c.args.clock.now in
    let may_say = g.I.Issuer.may_say c.args.issuer.now in
    let old = c.args.host.now in
    let came = c.in_ok-output.ensures in
    took_told book may_give may_say old c.take.new.self _ (Asked c.in-Ask.query)
    c.in_ok-output.output
    (ap told_at (sym c.in-Ask.is)) refl
    (taken_waiting may_give may_say (book.tables old) c.now.result c.from_vec.result
    c.args.message.items c.from_vec.ensures c.now.ensures.given c.in-Ask.query
    c.in_ok-output.output c.in-Ask.is (sym (came.output_within began n h w)))
    (came.within.made began n refl h w)

pub returns-in_default-clause-took : goal.returns-in_default-clause-took
returns-in_default-clause-took g c began n h w =
    let book = g.B.Book in
    let may_give = g.C.Clock.may_give c.args.clock.now in
    let may_say = g.I.Issuer.may_say c.args.issuer.now in
    let old = c.args.host.now in
    let came = c.in_ok-output.ensures in
    if_said (λ s. TookWithin book may_give may_say old c.take.new.self
    (Message c.args.message.items ∷ []) (told_by s ∷ [])) c.said_last.result
    c.in_ok-output.output c.said_last.ensures.told c.said_last.ensures.fit
    (λ s is fits.
    took_told book may_give may_say old c.take.new.self _ s c.in_ok-output.output is refl
    (taken_alone may_give may_say (book.tables old) c.now.result c.from_vec.result
    c.args.message.items c.from_vec.ensures c.now.ensures.given c.in_ok-output.output
    (sym (came.output_within began n h w)) (λ query e. c.in_default.not-Ask query e) fits)
    (came.within.made began n refl h w))

pub returns-in_default-clause-stays : goal.returns-in_default-clause-stays
returns-in_default-clause-stays g c =
    let came = c.in_ok-output.ensures in
    stays_broken g.B.Book g.met.B.Book.returns c.args.host.now c.take.new.self
    (is_ok c.said_last.result)
    (stays_call g.B.Book c.args.host.now c.take.new.self true _ came.tables came.within)

pub returns-in_default-clause-store : goal.returns-in_default-clause-store
returns-in_default-clause-store g c =
    let came = c.in_ok-output.ensures in
    tells_said c.said_last.result _ came.store c.said_last.ensures.fault
    (λ broke began n h w.
    true≢false (sym (c.said_last.ensures.fits
    (reply_fits c.in_ok-output.output (came.reply_within began n h w))) ∙ broke))
