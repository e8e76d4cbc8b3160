use Rattle.std.proofs.Common.{ap, refl, sym}
use Rattle.acq_front.specs.Lines.{sent_of}
use Rattle.acq_gateways.specs.Told.{seen, seen_in, told_of}
use Rattle.acq_gateways.proofs.Staying.{goes, gone}
use Rattle.acq_gateways.proofs.Stepping.{told_looks}
use Rattle.acq_gateways.proofs.gateways.Gateways.look.Goals as goal

pub returns-in-Ok-clause-told : goal.returns-in-Ok-clause-told
returns-in-Ok-clause-told g c = λ honest opened t steps now f.
    let one = c.in-Some.here in
    goes t steps (told_of c.args.self.now) _ (seen one)
    (record (seen one) { gateway = c.look.new.self })
    (ap seen_in (sym c.in-Some.ensures.value)) refl refl refl
    (told_looks t steps (sent_of one.line) one.gateway c.look.new.self
    (g.B.Book.tables c.args.host.now) c.args.moment now (c.in-Ok.ensures.tells honest opened)) f

-- what went over its connection is as it was
pub returns-in-Err-clause-told : goal.returns-in-Err-clause-told
returns-in-Err-clause-told g c = λ honest opened t steps now f.
    let one = c.in-Some.here in
    let was = told_of c.args.self.now in
    gone t steps was (record was { here = seen_in c.take.new.self }) (told_of c.note.new.self)
    (seen one) (ap seen_in (sym c.in-Some.ensures.value)) (ap seen_in c.take.ensures.after)
    refl refl (record (seen one) { gateway = c.look.new.self }) c.note.ensures
    (λ h. (one.gateway, h)) f
