use Rattle.acq_controls.specs.Aside.{aside_of}
use Rattle.acq_controls.specs.Following.{Stays}
use Rattle.acq_tcp.proofs.control_server.ControlServer.admit.Given as goal

-- they go on to follow what they did
abbrev pub invariant-loop-place : goal.invariant-loop-place
invariant-loop-place g l = record { stays : Stays (aside_of l.fn.controls) (aside_of l.controls) }
