use Rattle.std.proofs.Common.{[], Ok, Err, ◌≡◌, ◌++◌, List, ℕ, take, refl, sym, ap, ◌∙◌, append-nil}
use Rattle.std.proofs.Common.{arith, ◌+◌}
use Rattle.std.proofs.lemmas.Result.{err_from_is_err_and}
use Rattle.std.proofs.lemmas.List.{take-append-le}
use Rattle.acq_message.specs.declared.verdict.Verdict.TheVariants.{NoAnswer}
use Rattle.acq_front.specs.Faults.{failed_writes}
use Rattle.acq_front.specs.Stops.{left_of}
use Rattle.acq_front.specs.Talk.{first_moment}
use Rattle.acq_front.specs.Turns.{Incoming}
use Rattle.std.proofs.lemmas.List.Elements.{All-nil}
use Rattle.acq_front.proofs.GivenInOrder.{gives_none, gives_append, gives_along, may_append}
use Rattle.acq_front.proofs.StreamRead.{consumes_none, consumes_append, received_more}
use Rattle.acq_front.proofs.StreamRead.{received_none, empty_of, not_empty_of}
use Rattle.acq_serving.proofs.FramesCame.{none_came, piece_came, frame_taken, frame_came}
use Rattle.acq_front.proofs.Turned.{tells_on}
use Rattle.acq_front.proofs.StopsLeave.{none_stop}
use Rattle.acq_serving.proofs.FaultsApart.{stream_unended, stream_unread, stream_unwritten}
use Rattle.acq_front.proofs.Turning.{stream_unstored}
use Rattle.acq_serving.proofs.FaultsApart.{message_unended, message_unread}
use Rattle.acq_front.proofs.Refusals.{unless_refused}
use Rattle.acq_serving.proofs.Served.{nothing_yet, going_none, going_held, with_piece, going_read}
use Rattle.acq_serving.proofs.Served.{with_message, going_more, stream_stops, read_stops, ends_well}
use Rattle.acq_serving.proofs.Served.{ends_inside, stopped, turns_weaker}
use Rattle.acq_serving.proofs.serving.serve.Goals as goal

pub loop-message-init : goal.loop-message-init
loop-message-init g c =
    let may_say = g.I.Issuer.may_say c.args.issuer.now in (
      (λ h o. (
        nothing_yet,
        sym (append-nil _),
        sym (append-nil _),
        gives_none _ _,
        All-nil _,
        gives_none _ _,
        going_held may_say (going_none may_say (left_of g.B.Book c.args.host.now)
            (none_stop g.B.Book g.met.B.Book.settled g.met.B.Book.stored c.args.host.now o))
            c.new-input.ensures,
        o,
      )),
      (λ h. h),
      ([], sym (append-nil _), consumes_none _),
      refl,
      refl,
      (λ q v said. said),
      (λ m given. given),
      omega arith,
      ([], none_came (g.S.Source.received c.args.source.now) _ c.new-input.ensures),
    )

pub returns-in_err-message-clause-served : goal.returns-in_err-message-clause-served
returns-in_err-message-clause-served g c = λ h o.
    let p = err_from_is_err_and c.from_residual.result c.from_residual.ensures.1 in
    let i = c.loop-message.invariant.0 h o in (
      i.0,
      i.1,
      i.2,
      i.3,
      i.4,
      i.5,
      rw (p.1, p.2) (stream_stops (g.I.Issuer.may_say c.args.issuer.now) c.in_err-message.field-0.0
          i.6 (λ is. c.in_err-message.ensures.bad (ap Err is))),
    )

pub returns-in_err-answer_message-clause-served : goal.returns-in_err-answer_message-clause-served
returns-in_err-answer_message-clause-served g c = λ h o.
    let may_say = g.I.Issuer.may_say c.args.issuer.now in
    let p = err_from_is_err_and c.from_residual-in_err-answer_message.result
    c.from_residual-in_err-answer_message.ensures.1 in
    let i = c.loop-message.invariant.0 (c.in_err-answer_message.ensures.was_honest h) o in
    let e = c.in_err-answer_message.ensures.turns h i.7 in
    let begins = rw c.in-Some.is at c.in_ok-message.ensures.some in
    let fault = c.in_err-answer_message.field-0.0 in
    let old = g.B.Book.tables c.args.host.now in
    let mid = left_of g.B.Book c.loop-message.host in
    let now = left_of g.B.Book c.answer_message.new.host in
    let m : Incoming =
    record { message = c.in-Some.message.items; moments = e.1; verdicts = e.2 } in
    let w = turns_weaker (g.I.Issuer.may_say c.loop-message.issuer) may_say
    c.loop-message.invariant.5 mid.tables now m e.0 (Err fault) e.7 in
    let x = stopped may_say old mid now i.0 c.loop-message.input
    c.take_message.new.self m e.0 i.6 begins fault w in (
      x.0,
      i.1 ∙ ap (λ (l : List ℕ). g.S.Source.received c.args.source.now ++ l) (sym x.1.input),
      received_more (g.K.Sink.sent c.args.sink.now) _ _ i.0.output e.0 i.2 e.3
          ∙ ap (λ (l : List ℕ). g.K.Sink.sent c.args.sink.now ++ l) (sym x.1.output),
      gives_along first_moment _ _ _ i.0.moments e.1 _ x.1.moments_are i.3 e.4,
      may_append (g.C.Clock.may_give c.args.clock.now) (g.C.Clock.may_give c.loop-message.clock)
          i.0.moments e.1 _
          x.1.moments_are c.loop-message.invariant.6 i.4 e.5,
      gives_along NoAnswer _ _ _ i.0.verdicts e.2 _ x.1.verdicts_are i.5 e.6,
      rw (p.1, p.2) x.2,
    )

pub returns-in_err-answer_message-clause-store : goal.returns-in_err-answer_message-clause-store
returns-in_err-answer_message-clause-store g c =
    let p = err_from_is_err_and c.from_residual-in_err-answer_message.result
    c.from_residual-in_err-answer_message.ensures.1 in
    let e = c.in_err-answer_message.ensures in
    let began = rw c.in-Some.is at c.in_ok-message.ensures.some in
    rw (p.1, p.2) (tells_on (Unit {0}) (Unit {0}) c.in_err-answer_message.field-0.0 _ _ _
    c.loop-message.invariant.7
    (λ shut. (
      frame_came (g.S.Source.received c.args.source.now) _ c.loop-message.input
          c.in-Some.message.items c.take_message.new.self began c.loop-message.invariant.8,
      (λ h o. shut h (c.loop-message.invariant.0 (e.was_honest h) o).7),
    ))
    e.store)

pub loop-message-preserved-in-Some : goal.loop-message-preserved-in-Some
loop-message-preserved-in-Some g c =
    let before = c.in_ok-answer_message.ensures.was_honest in
    let may_say = g.I.Issuer.may_say c.args.issuer.now in (
      (λ h o.
          let i = c.loop-message.invariant.0 (before h) o in
          let e = c.in_ok-answer_message.ensures.turns h i.7 in
          let begins = rw c.in-Some.is at c.in_ok-message.ensures.some in
          let mid = g.B.Book.tables c.loop-message.host in
          let now = left_of g.B.Book c.answer_message.new.host in
          let m : Incoming =
          record { message = c.in-Some.message.items; moments = e.1; verdicts = e.2 } in
          let w = turns_weaker (g.I.Issuer.may_say c.loop-message.issuer) may_say
          c.loop-message.invariant.5 mid now m e.0 (Ok tt) e.7 in
          let so = going_more may_say m e.0 c.take_message.new.self i.6 begins w.1 w.0 in (
            with_message i.0 m e.0 c.take_message.new.self,
            i.1,
            received_more (g.K.Sink.sent c.args.sink.now) _ _ i.0.output e.0 i.2 e.3,
            gives_append first_moment _ _ _ i.0.moments e.1 i.3 e.4,
            may_append (g.C.Clock.may_give c.args.clock.now)
                (g.C.Clock.may_give c.loop-message.clock) i.0.moments e.1 _
                refl c.loop-message.invariant.6 i.4 e.5,
            gives_append NoAnswer _ _ _ i.0.verdicts e.2 i.5 e.6,
            so,
            c.in_ok-answer_message.ensures.stays_open h i.7,
          )),
      (λ h. c.loop-message.invariant.1 (before h)),
      c.loop-message.invariant.2,
      c.loop-message.invariant.3,
      omega (arith, c.in_ok-answer_message.ensures.writes, c.loop-message.invariant.4),
      (λ q v said. c.loop-message.invariant.5 q v (c.in_ok-answer_message.ensures.later q v said)),
      (λ m given. c.loop-message.invariant.6 m
          (c.in_ok-answer_message.ensures.moments_later m given)),
      c.in_ok-answer_message.ensures.store ∙ c.loop-message.invariant.7,
      frame_taken (g.S.Source.received c.args.source.now) _ c.loop-message.input
          c.in-Some.message.items c.take_message.new.self
          (rw c.in-Some.is at c.in_ok-message.ensures.some) c.loop-message.invariant.8,
    )

pub returns-in_err-n-clause-served : goal.returns-in_err-n-clause-served
returns-in_err-n-clause-served g c = λ h o.
    let p = err_from_is_err_and c.from_residual-in_err-n.result c.from_residual-in_err-n.ensures.1
    in
    let i = c.loop-message.invariant.0 h o in
    let begun = rw c.in_default.is at c.in_ok-message.ensures.none in (
      i.0,
      c.in_err-n.ensures.received ∙ i.1,
      i.2,
      i.3,
      i.4,
      i.5,
      rw (p.1, p.2)
          (read_stops (g.I.Issuer.may_say c.args.issuer.now) i.6 begun.1),
    )

pub returns-then-is_empty-clause-served : goal.returns-then-is_empty-clause-served
returns-then-is_empty-clause-served g c = λ h o.
    let i = c.loop-message.invariant.0 h o in
    let begun = rw c.in_default.is at c.in_ok-message.ensures.none in
    let none = sym begun.0 ∙ empty_of c.take_message.new.self
    (sym c.is_empty.ensures ∙ c.if-is_empty.true) in (
      i.0,
      received_none (g.S.Source.received c.args.source.now) _ _ i.0.input _ _ c.if-n-eq0.true i.1
          c.in_ok-n.ensures.received,
      i.2,
      i.3,
      i.4,
      i.5,
      ends_well (g.I.Issuer.may_say c.args.issuer.now) i.6 none,
    )

pub returns-else-is_empty-clause-served : goal.returns-else-is_empty-clause-served
returns-else-is_empty-clause-served g c = λ h o.
    let i = c.loop-message.invariant.0 h o in
    let begun = rw c.in_default.is at c.in_ok-message.ensures.none in (
      i.0,
      received_none (g.S.Source.received c.args.source.now) _ _ i.0.input _ _ c.if-n-eq0.true i.1
          c.in_ok-n.ensures.received,
      i.2,
      i.3,
      i.4,
      i.5,
      ends_inside (g.I.Issuer.may_say c.args.issuer.now) i.6 begun.1
          (λ none. not_empty_of c.take_message.new.self
          (sym c.is_empty.ensures ∙ c.if-is_empty.false) (begun.0 ∙ none)),
    )

pub loop-message-preserved : goal.loop-message-preserved
loop-message-preserved g c =
    let read = c.loop-message.invariant.2 in
    let may_say = g.I.Issuer.may_say c.args.issuer.now in
    let piece = take c.in_ok-n.n c.read.new.buffer in
    let begun = rw c.in_default.is at c.in_ok-message.ensures.none in
    let fed : c.feed.new.self ≡ c.loop-message.input ++ piece =
    c.feed.ensures
    ∙ ap (λ (l : List ℕ). c.take_message.new.self ++ l)
    (take-append-le _ c.read.new.buffer _ c.in_ok-n.ensures.bound.0)
    ∙ ap (λ (l : List ℕ). l ++ piece) begun.0 in (
      (λ h o.
          let i = c.loop-message.invariant.0 h o in (
            with_piece i.0 piece,
            received_more _ _ _ _ piece i.1 c.in_ok-n.ensures.received,
            i.2,
            i.3,
            i.4,
            i.5,
            going_held may_say (going_read may_say piece i.6) fed,
            i.7,
          )),
      c.loop-message.invariant.1,
      (
        read.0 ++ piece,
        received_more _ _ _ _ piece read.1 c.in_ok-n.ensures.received,
        consumes_append _ _ _ _ piece read.2 c.in_ok-n.ensures.remaining.0,
      ),
      c.in_ok-n.ensures.failures ∙ c.loop-message.invariant.3,
      c.loop-message.invariant.4,
      c.loop-message.invariant.5,
      c.loop-message.invariant.6,
      c.loop-message.invariant.7,
      piece_came (g.S.Source.received c.args.source.now) _ _ c.loop-message.input
          c.feed.new.self piece fed c.in_ok-n.ensures.received c.loop-message.invariant.8,
    )

-- what holds at every exit, whichever fault it tells
pub returns-in_err-message-clause-stays_open : goal.returns-in_err-message-clause-stays_open
returns-in_err-message-clause-stays_open g c = λ h o.
    unless_refused c.from_residual.result (c.loop-message.invariant.0 h o).7

pub returns-in_err-message-clause-whole : goal.returns-in_err-message-clause-whole
returns-in_err-message-clause-whole g c =
    let p = err_from_is_err_and c.from_residual.result c.from_residual.ensures.1 in
    rw (p.1, p.2) (stream_unended _ c.in_err-message.field-0.0)

pub returns-in_err-message-clause-reads : goal.returns-in_err-message-clause-reads
returns-in_err-message-clause-reads g c =
    let p = err_from_is_err_and c.from_residual.result c.from_residual.ensures.1 in
    rw (p.1, p.2, stream_unread (Unit {0}) c.in_err-message.field-0.0)
    (omega (arith, c.loop-message.invariant.3))

pub returns-in_err-message-clause-writes : goal.returns-in_err-message-clause-writes
returns-in_err-message-clause-writes g c =
    let p = err_from_is_err_and c.from_residual.result c.from_residual.ensures.1 in
    rw (p.1, p.2, stream_unwritten (Unit {0}) c.in_err-message.field-0.0)
    (omega (arith, c.loop-message.invariant.4))

pub returns-in_err-message-clause-store : goal.returns-in_err-message-clause-store
returns-in_err-message-clause-store g c =
    let p = err_from_is_err_and c.from_residual.result c.from_residual.ensures.1 in
    rw (p.1, p.2) (stream_unstored (Unit {0}) _ c.in_err-message.field-0.0 _ _
    c.loop-message.invariant.7)

pub returns-in_err-answer_message-clause-stays_open :
    goal.returns-in_err-answer_message-clause-stays_open
returns-in_err-answer_message-clause-stays_open g c = λ h o.
    let p = err_from_is_err_and c.from_residual-in_err-answer_message.result
    c.from_residual-in_err-answer_message.ensures.1 in
    let e = c.in_err-answer_message.ensures in
    rw (p.1, p.2) (e.stays_open h (c.loop-message.invariant.0 (e.was_honest h) o).7)

pub returns-in_err-answer_message-clause-whole : goal.returns-in_err-answer_message-clause-whole
returns-in_err-answer_message-clause-whole g c =
    let p = err_from_is_err_and c.from_residual-in_err-answer_message.result
    c.from_residual-in_err-answer_message.ensures.1 in
    rw (p.1, p.2) (message_unended _ c.in_err-answer_message.field-0.0
    c.in_err-answer_message.ensures.fault)

pub returns-in_err-answer_message-clause-reads : goal.returns-in_err-answer_message-clause-reads
returns-in_err-answer_message-clause-reads g c =
    let p = err_from_is_err_and c.from_residual-in_err-answer_message.result
    c.from_residual-in_err-answer_message.ensures.1 in
    let unread = message_unread (Unit {0}) c.in_err-answer_message.field-0.0
    c.in_err-answer_message.ensures.fault in
    rw (p.1, p.2, unread) (omega (arith, c.loop-message.invariant.3))

pub returns-in_err-answer_message-clause-writes : goal.returns-in_err-answer_message-clause-writes
returns-in_err-answer_message-clause-writes g c =
    let p = err_from_is_err_and c.from_residual-in_err-answer_message.result
    c.from_residual-in_err-answer_message.ensures.1 in
    rw (p.1, p.2)
    (c.in_err-answer_message.ensures.writes
    ∙ ap (λ (n : ℕ). n + failed_writes {X = Unit {0}} (Err c.in_err-answer_message.field-0.0))
    c.loop-message.invariant.4)

pub returns-in_err-n-clause-stays_open : goal.returns-in_err-n-clause-stays_open
returns-in_err-n-clause-stays_open g c = λ h o.
    unless_refused c.from_residual-in_err-n.result (c.loop-message.invariant.0 h o).7

pub returns-in_err-n-clause-whole : goal.returns-in_err-n-clause-whole
returns-in_err-n-clause-whole g c =
    let p = err_from_is_err_and c.from_residual-in_err-n.result c.from_residual-in_err-n.ensures.1
    in
    rw (p.1, p.2) tt

pub returns-in_err-n-clause-reads : goal.returns-in_err-n-clause-reads
returns-in_err-n-clause-reads g c =
    let p = err_from_is_err_and c.from_residual-in_err-n.result c.from_residual-in_err-n.ensures.1
    in
    rw (p.1, p.2)
    (c.in_err-n.ensures.failures ∙ ap (λ (n : ℕ). n + 1) c.loop-message.invariant.3)

pub returns-in_err-n-clause-writes : goal.returns-in_err-n-clause-writes
returns-in_err-n-clause-writes g c =
    let p = err_from_is_err_and c.from_residual-in_err-n.result c.from_residual-in_err-n.ensures.1
    in
    rw (p.1, p.2) (omega (arith, c.loop-message.invariant.4))

pub returns-in_err-n-clause-store : goal.returns-in_err-n-clause-store
returns-in_err-n-clause-store g c =
    let p = err_from_is_err_and c.from_residual-in_err-n.result c.from_residual-in_err-n.ensures.1
    in
    rw (p.1, p.2) c.loop-message.invariant.7

pub returns-then-is_empty-clause-store : goal.returns-then-is_empty-clause-store
returns-then-is_empty-clause-store g c = c.loop-message.invariant.7

pub returns-else-is_empty-clause-store : goal.returns-else-is_empty-clause-store
returns-else-is_empty-clause-store g c = c.loop-message.invariant.7
