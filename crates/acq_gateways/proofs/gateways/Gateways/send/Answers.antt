use Rattle.std.proofs.Common.{ap, refl, sym}
use Rattle.acq_gateways.specs.Told.{seen, seen_in, told_of}
use Rattle.acq_gateways.proofs.Staying.{goes, gone}
use Rattle.acq_gateways.proofs.gateways.Gateways.send.Goals as goal

pub returns-in-None : goal.returns-in-None
returns-in-None g c = record {
  stays = λ t steps f. goes t steps (told_of c.args.self.now) _ (seen c.in_ok-here.here)
      (seen c.send.new.self) (ap seen_in (sym c.in_ok-here.ensures.value)) refl refl refl
      (c.in-None.ensures.goes t steps) f;
}

pub returns-in-Some : goal.returns-in-Some
returns-in-Some g c =
    let was = told_of c.args.self.now in
    record {
      stays = λ t steps f. gone t steps was
          (record was { here = seen_in c.take.new.self }) (told_of c.note.new.self)
          (seen c.in_ok-here.here) (ap seen_in (sym c.in_ok-here.ensures.value))
          (ap seen_in c.take.ensures.after) refl refl (seen c.send.new.self) c.note.ensures
          (λ h. (c.send.new.self.gateway, c.in-Some.ensures.goes t steps h)) f;
    }
