-- so far the command takes the first of these
use Rattle.std.proofs.Common.{◌≡◌, take}
use Rattle.clap.specs.Words.{app_of, new_app}
use Rattle.acq_program.specs.Parameters.{with_parameters}
use Rattle.acq_program.proofs.program.command.Given as goal

abbrev pub invariant-loop-parameter : goal.invariant-loop-parameter
invariant-loop-parameter l =
    app_of l.command
    ≡ with_parameters (new_app l.text.name.now) (take l.parameter-index l.text.parameters.now)
