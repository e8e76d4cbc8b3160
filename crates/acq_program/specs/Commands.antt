-- Commands as they are put together.
use Rattle.std.specs.Prelude.{◌≡◌, ◌&&◌, Bool, true, IfOk, List, [], ◌∷◌, Result}
use Rattle.std.specs.declared.alloc.AllocError.{AllocError}
use Rattle.clap.specs.Words.{App, app_of, new_app, with_subcommand}
use Rattle.clap.specs.declared.builder.command.Command.{Command}
use Rattle.acq_program.specs.declared.command_text.CommandText.{CommandText}
use Rattle.acq_program.specs.Parameters.{with_parameters}

-- if there was memory, what was made reads these arguments
abbrev pub Makes : Result Command AllocError → App → Type 0
Makes made a = IfOk made (λ command. app_of command ≡ a)

-- a command with all that it takes
abbrev pub command_of : CommandText → App
command_of text = with_parameters (new_app text.name.now) text.parameters.now

-- a program with these commands behind its own
abbrev pub with_commands : App → List CommandText → App
with_commands a [] = a
with_commands a (text ∷ texts) = with_commands (with_subcommand a (command_of text).top) texts

-- none of them has commands or rules that its program would have to know
abbrev pub are_plain : List CommandText → Bool
are_plain [] = true
are_plain (text ∷ texts) = (command_of text).top.is_plain && are_plain texts
