use Rattle.std.proofs.Common.{ap, refl}
use Rattle.acq_front.specs.Lines.{sent_of}
use Rattle.acq_gateways.specs.Told.{seen, seen_in, told_of}
use Rattle.acq_gateways.proofs.Staying.{goes}
use Rattle.acq_gateways.proofs.Stepping.{told_stays}
use Rattle.acq_gateways.proofs.gateways.Gateways.note_news.Goals as goal

pub returns-in-Some : goal.returns-in-Some
returns-in-Some g c =
    let was = c.args.self.now in
    let one = c.in-Some.here in
    record {
      stays = λ t steps f. goes t steps (told_of was) _ (seen one)
          (record (seen one) { gateway = c.note_news.new.self }) (ap seen_in c.in-Some.is) refl
          refl refl
          (told_stays t steps (sent_of one.line) one.gateway c.note_news.new.self
          c.note_news.ensures) f;
    }
