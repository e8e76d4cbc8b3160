use Rattle.acq_controls.specs.Aside.{aside_of}
use Rattle.acq_controls.proofs.Staying.{stay_both}
use Rattle.acq_tcp.proofs.control_server.ControlServer.admit.Goals as goal

pub loop-place-preserved : goal.loop-place-preserved
loop-place-preserved g c = record {
  stays = stay_both (aside_of c.args.controls.now) (aside_of c.loop-place.controls)
      (aside_of c.admit_at.new.controls) c.loop-place.invariant.stays c.admit_at.ensures.stays;
}
