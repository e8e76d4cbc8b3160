use Rattle.std.proofs.Common.{◌∙◌, ◌++◌, ap, append-nil, subst, sym, take, Ok}
use Rattle.acq_front.specs.Lines.{moved, sent_of}
use Rattle.acq_link.specs.declared.failed.Failed.{Failed}
use Rattle.acq_gateways.specs.Following.{IsTold}
use Rattle.acq_gateways.proofs.Stepping.{told_wrote}
use Rattle.acq_gateways.proofs.open_gateway.OpenGateway.write_piece.Goals as goal

pub returns-in-Ok-Some-clause-goes : goal.returns-in-Ok-Some-clause-goes
returns-in-Ok-Some-clause-goes g c t steps h =
    let was = c.args.self.now in
    let went = sent_of was.line in
    subst (λ l. IsTold t steps l c.advance.new.self)
    (sym (c.in-Ok-Some.ensures.sent
    ∙ ap (λ r. went ++ take (moved {E = Failed} (Ok r)) c.unsent.result.now) c.in-Ok-Some.field-0-is
    ∙ ap (λ l. went ++ take c.in-Ok-Some.n l) c.unsent.ensures))
    (told_wrote t steps went was.gateway c.advance.new.self c.in-Ok-Some.n
    c.advance.ensures.unsent c.advance.ensures.held c.advance.ensures.rows c.advance.ensures.from h)

pub returns-in-Ok-None-clause-goes : goal.returns-in-Ok-None-clause-goes
returns-in-Ok-None-clause-goes g c t steps h =
    let was = c.args.self.now in
    let went = sent_of was.line in
    subst (λ l. IsTold t steps l was.gateway)
    (sym (c.in-Ok-None.ensures.sent
    ∙ ap (λ r. went ++ take (moved {E = Failed} (Ok r)) c.unsent.result.now) c.in-Ok-None.field-0-is
    ∙ append-nil went)) h

pub returns-in-Err-clause-goes : goal.returns-in-Err-clause-goes
returns-in-Err-clause-goes g c t steps h =
    let was = c.args.self.now in
    let went = sent_of was.line in
    subst (λ l. IsTold t steps l was.gateway)
    (sym (c.in-Err.ensures.sent ∙ append-nil went)) h
