use Rattle.std.proofs.Common.{map}
use Rattle.acq_controls.specs.Aside.{seen_in}
use Rattle.acq_controls.proofs.Staying.{AreFree}
use Rattle.acq_controls.proofs.controls.Controls.new.Given as goal

-- no place is taken
abbrev pub invariant-loop : goal.invariant-loop
invariant-loop g l = record { free : AreFree (map seen_in l.all.items) }
