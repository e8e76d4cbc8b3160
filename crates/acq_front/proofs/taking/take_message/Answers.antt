use Rattle.std.proofs.Common.{[], ◌∷◌, refl, sym, ◌∙◌}
use Rattle.std.proofs.lemmas.Result.{err_from_is_err_and}
use Rattle.std.proofs.lemmas.List.Elements.{All-nil, All-cons}
use Rattle.acq_front.proofs.GivenInOrder.{gives_none, gives_one, gives_append, two_moments}
use Rattle.acq_core.specs.declared.event.Event.TheVariants.{Frame, Answer}
use Rattle.acq_core.specs.declared.output.Output.{Output}
use Rattle.acq_front.specs.Stops.{left_of}
use Rattle.acq_front.proofs.StopsLeave.{taken_stop, refused_stop}
use Rattle.acq_front.proofs.Turned.{book_stops, counts_book, message_refused, plain_said}
use Rattle.acq_front.proofs.Turned.{reply_fits, unread}
use Rattle.acq_front.proofs.Turned.{answer_refused, answer_said}
use Rattle.acq_front.proofs.taking.take_message.Goals as goal

pub returns-in_err-said-clause-takes : goal.returns-in_err-said-clause-takes
returns-in_err-said-clause-takes g c = λ h o.
    let p = err_from_is_err_and c.from_residual.result c.from_residual.ensures.1 in
    let makes = c.in_err-said.ensures.tables in
    let may_say = g.I.Issuer.may_say c.args.issuer.now in (
      c.now.result ∷ [],
      [],
      gives_one _ _ _ _ c.now.ensures.coming,
      All-cons (g.C.Clock.may_give c.args.clock.now) c.now.result [] c.now.ensures.given
          (All-nil _),
      gives_none _ _,
      rw (p.1, p.2) (book_stops may_say c.in_err-said.field-0.0 _ _ _
          (message_refused may_say (g.B.Book.tables c.args.host.now) c.now.result c.from_vec.result
          c.args.message.items c.from_vec.ensures (left_of g.B.Book c.take.new.self)
          (λ still. makes.unmade refl o still)
          (refused_stop g.B.Book c.args.host.now c.take.new.self
          (Frame c.now.result c.from_vec.result) h o g.met.B.Book.settled makes))),
    )

pub returns-in-Undecodable-clause-takes : goal.returns-in-Undecodable-clause-takes
returns-in-Undecodable-clause-takes g c = λ h o.
    let makes = c.in_ok-said.ensures.tables in (
      c.now.result ∷ [],
      [],
      gives_one _ _ _ _ c.now.ensures.coming,
      All-cons (g.C.Clock.may_give c.args.clock.now) c.now.result [] c.now.ensures.given
          (All-nil _),
      gives_none _ _,
      unread (g.I.Issuer.may_say c.args.issuer.now) (g.B.Book.tables c.args.host.now) c.now.result
          c.from_vec.result c.args.message.items
          c.from_vec.ensures (left_of g.B.Book c.take.new.self) _
          (sym (c.in_ok-said.ensures.output h o) ∙ c.in-Undecodable.is)
          (makes.made refl o (makes.stays_open refl h o))
          (taken_stop g.B.Book c.args.host.now c.take.new.self
          (Frame c.now.result c.from_vec.result) h o makes),
    )

pub returns-in_err-said-in-Ask-clause-takes : goal.returns-in_err-said-in-Ask-clause-takes
returns-in_err-said-in-Ask-clause-takes g c = λ h o.
    let p = err_from_is_err_and c.from_residual-in_err-said-in-Ask.result
    c.from_residual-in_err-said-in-Ask.ensures.1 in
    let may_say = g.I.Issuer.may_say c.args.issuer.now in
    let first = c.in_ok-said.ensures.tables in
    let second = c.in_err-said-in-Ask.ensures.tables in
    let between = first.stays_open refl (second.was_honest h) o in (
      c.now.result ∷ c.now-in-Ask.result ∷ [],
      c.answer-verdict.result ∷ [],
      gives_append _ _ _ _ _ _ (gives_one _ _ _ _ c.now.ensures.coming)
          (gives_one _ _ _ _ c.now-in-Ask.ensures.coming),
      two_moments (g.C.Clock.may_give c.args.clock.now) c.now.result c.now-in-Ask.result
          c.now.ensures.given
          (c.now.ensures.later c.now-in-Ask.result c.now-in-Ask.ensures.given),
      gives_one _ _ _ _ c.answer-verdict.ensures.coming,
      rw (p.1, p.2) (book_stops may_say c.in_err-said-in-Ask.field-0.0 _ _ _
          (answer_refused may_say (g.B.Book.tables c.args.host.now) c.now.result c.from_vec.result
          c.args.message.items
          c.from_vec.ensures c.now-in-Ask.result c.in-Ask.query c.answer-verdict.result
          (sym (c.in_ok-said.ensures.output (second.was_honest h) o) ∙ c.in-Ask.is)
          (g.B.Book.tables c.take.new.self)
          (first.made refl o between) c.answer-verdict.ensures.said
          (left_of g.B.Book c.take-in-Ask.new.self)
          (λ still. second.unmade refl between still)
          (refused_stop g.B.Book c.take.new.self c.take-in-Ask.new.self
          (Answer c.now-in-Ask.result c.in-Ask.query.merchant c.in-Ask.query.reference
          c.answer-verdict.result) h between g.met.B.Book.settled second))),
    )

pub returns-in_ok-said-in-Ask-clause-takes : goal.returns-in_ok-said-in-Ask-clause-takes
returns-in_ok-said-in-Ask-clause-takes g c = λ h o.
    let may_say = g.I.Issuer.may_say c.args.issuer.now in
    let first = c.in_ok-said.ensures.tables in
    let second = c.in_ok-said-in-Ask.ensures.tables in
    let between = first.stays_open refl (second.was_honest h) o in
    let end = second.stays_open refl h between in (
      c.now.result ∷ c.now-in-Ask.result ∷ [],
      c.answer-verdict.result ∷ [],
      gives_append _ _ _ _ _ _ (gives_one _ _ _ _ c.now.ensures.coming)
          (gives_one _ _ _ _ c.now-in-Ask.ensures.coming),
      two_moments (g.C.Clock.may_give c.args.clock.now) c.now.result c.now-in-Ask.result
          c.now.ensures.given
          (c.now.ensures.later c.now-in-Ask.result c.now-in-Ask.ensures.given),
      gives_one _ _ _ _ c.answer-verdict.ensures.coming,
      answer_said may_say (g.B.Book.tables c.args.host.now) c.now.result c.from_vec.result
          c.args.message.items
          c.from_vec.ensures c.now-in-Ask.result c.in-Ask.query c.answer-verdict.result
          (sym (c.in_ok-said.ensures.output (second.was_honest h) o) ∙ c.in-Ask.is)
          (g.B.Book.tables c.take.new.self) (first.made refl o between)
          c.answer-verdict.ensures.said
          (left_of g.B.Book c.take-in-Ask.new.self)
          c.in_ok-said-in-Ask.said (c.in_ok-said-in-Ask.ensures.output h between)
          (second.made refl between end)
          (taken_stop g.B.Book c.take.new.self c.take-in-Ask.new.self
          (Answer c.now-in-Ask.result c.in-Ask.query.merchant c.in-Ask.query.reference
          c.answer-verdict.result) h between second)
          (reply_fits c.in_ok-said-in-Ask.said (c.in_ok-said-in-Ask.ensures.reply h between)),
    )

pub returns-in_default-clause-takes : goal.returns-in_default-clause-takes
returns-in_default-clause-takes g c = λ h o.
    let makes = c.in_ok-said.ensures.tables in (
      c.now.result ∷ [],
      [],
      gives_one _ _ _ _ c.now.ensures.coming,
      All-cons (g.C.Clock.may_give c.args.clock.now) c.now.result [] c.now.ensures.given
          (All-nil _),
      gives_none _ _,
      plain_said (g.I.Issuer.may_say c.args.issuer.now) (g.B.Book.tables c.args.host.now)
          c.now.result c.from_vec.result
          c.args.message.items c.from_vec.ensures (left_of g.B.Book c.take.new.self)
          c.in_ok-said.said (sym (c.in_ok-said.ensures.output h o))
          (makes.made refl o (makes.stays_open refl h o))
          (taken_stop g.B.Book c.args.host.now c.take.new.self
          (Frame c.now.result c.from_vec.result) h o makes) c.in_default.not-Ask
          c.in_default.not-Undecodable
          (reply_fits c.in_ok-said.said (c.in_ok-said.ensures.reply h o)),
    )

pub returns-in_err-said-clause-store : goal.returns-in_err-said-clause-store
returns-in_err-said-clause-store g c =
    let p = err_from_is_err_and c.from_residual.result c.from_residual.ensures.1 in
    rw (p.1, p.2) (counts_book Output c.in_err-said.field-0.0 _ refl c.in_err-said.ensures.store)

pub returns-in-Undecodable-clause-store : goal.returns-in-Undecodable-clause-store
returns-in-Undecodable-clause-store g c = c.in_ok-said.ensures.store

pub returns-in_err-said-in-Ask-clause-store : goal.returns-in_err-said-in-Ask-clause-store
returns-in_err-said-in-Ask-clause-store g c =
    let p = err_from_is_err_and c.from_residual-in_err-said-in-Ask.result
    c.from_residual-in_err-said-in-Ask.ensures.1 in
    rw (p.1, p.2) (counts_book Output c.in_err-said-in-Ask.field-0.0 _ c.in_ok-said.ensures.store
    c.in_err-said-in-Ask.ensures.store)

pub returns-in_ok-said-in-Ask-clause-store : goal.returns-in_ok-said-in-Ask-clause-store
returns-in_ok-said-in-Ask-clause-store g c =
    c.in_ok-said-in-Ask.ensures.store ∙ c.in_ok-said.ensures.store

pub returns-in_default-clause-store : goal.returns-in_default-clause-store
returns-in_default-clause-store g c = c.in_ok-said.ensures.store
