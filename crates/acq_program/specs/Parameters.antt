-- What commands take, as the crate `clap` reads it.
use Rattle.std.specs.Prelude.{List, [], ◌∷◌}
use Rattle.clap.specs.Words.{App, Rule, Text, with_rule}
use Rattle.clap.specs.declared.builder.action.ArgAction.TheVariants.{Append}
use Rattle.acq_program.specs.declared.parameter.Parameter.{Parameter}
use Rattle.acq_program.specs.declared.parameter.ParameterKind.{ParameterKind}
use Rattle.acq_program.specs.declared.parameter.ParameterKind.TheVariants as kind
use Rattle.acq_program.specs.Program.{flag, option, option_with_value, place, required}

-- a rule of this kind
abbrev pub rule_by : Text → ParameterKind → Rule
rule_by name (kind.Optional value) = option name
rule_by name (kind.Required value) = required name
rule_by name (kind.Repeated value) = option_with_value name Append
rule_by name (kind.Place value) = place name
rule_by name kind.Flag = flag name

-- the rule of one
abbrev pub rule_of_parameter : Parameter → Rule
rule_of_parameter p = rule_by p.name.now p.kind

-- a command with all of these, in their order
abbrev pub with_parameters : App → List Parameter → App
with_parameters a [] = a
with_parameters a (p ∷ ps) = with_parameters (with_rule a (rule_of_parameter p)) ps
