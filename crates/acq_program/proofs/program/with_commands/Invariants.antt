-- so far the program has the first of these commands
use Rattle.std.proofs.Common.{◌≡◌, take}
use Rattle.clap.specs.Words.{app_of}
use Rattle.acq_program.specs.Commands.{with_commands}
use Rattle.acq_program.proofs.program.with_commands.Given as goal

abbrev pub invariant-loop-text : goal.invariant-loop-text
invariant-loop-text l =
    app_of l.program ≡ with_commands (app_of l.fn.program) (take l.text-index l.texts)
