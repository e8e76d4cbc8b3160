use Rattle.std.proofs.Common.{ap, refl, subst, sym}
use Rattle.acq_front.specs.Lines.{sent_of}
use Rattle.acq_gateways.specs.Following.{IsTold}
use Rattle.acq_gateways.specs.Told.{seen, seen_in, told_of}
use Rattle.acq_gateways.proofs.Staying.{goes, gone}
use Rattle.acq_gateways.proofs.Stepping.{told_takes}
use Rattle.acq_gateways.proofs.gateways.Gateways.receive.Goals as goal

pub returns-in-None : goal.returns-in-None
returns-in-None g c =
    let one = c.in_ok-here.here in
    let after = c.receive.new.self in
    record {
      stays = λ t steps f. goes t steps (told_of c.args.self.now) _ (seen one) (seen after)
          (ap seen_in (sym c.in_ok-here.ensures.value)) refl refl refl
          (λ h. subst (λ l. IsTold t steps l after.gateway) (sym c.in-None.ensures.went)
          (told_takes t steps (sent_of one.line) one.gateway after.gateway
          c.in-None.ensures.takes h)) f;
    }

pub returns-in-Some : goal.returns-in-Some
returns-in-Some g c =
    let one = c.in_ok-here.here in
    let was = told_of c.args.self.now in
    record {
      stays = λ t steps f. gone t steps was
          (record was { here = seen_in c.take.new.self }) (told_of c.note.new.self) (seen one)
          (ap seen_in (sym c.in_ok-here.ensures.value)) (ap seen_in c.take.ensures.after) refl refl
          (seen c.receive.new.self) c.note.ensures
          (λ h. (
            one.gateway,
            subst (λ l. IsTold t steps l one.gateway) (sym c.in-Some.ensures.went) h,
          )) f;
    }
