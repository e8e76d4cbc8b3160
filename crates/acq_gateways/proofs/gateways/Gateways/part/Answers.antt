use Rattle.std.proofs.Common.{ap, refl, sym}
use Rattle.acq_gateways.specs.Told.{seen, seen_in, told_of}
use Rattle.acq_gateways.proofs.Staying.{gone}
use Rattle.acq_gateways.proofs.gateways.Gateways.part.Goals as goal

pub returns-in-Some : goal.returns-in-Some
returns-in-Some g c =
    let was = told_of c.args.self.now in
    let one = c.in-Some.here in
    record {
      stays = λ t steps f. gone t steps was
          (record was { here = seen_in c.take.new.self }) (told_of c.note.new.self) (seen one)
          (ap seen_in (sym c.in-Some.ensures.value)) (ap seen_in c.take.ensures.after) refl refl
          (seen one) c.note.ensures (λ h. (one.gateway, h)) f;
    }
