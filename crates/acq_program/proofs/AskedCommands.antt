-- What the arguments ask for, by the command that clap found in them.
use Rattle.std.proofs.Common.{◌≡◌, ◌∙◌, ap, sym, subst, List, Option, Some, None, inl, refl}
use Rattle.std.specs.Prelude.{Box, Result, Ok, Err, [], option_map}
use Rattle.clap.specs.Words.{App, HasMatchesOf, Row, Text, fault_of}
use Rattle.clap.specs.Words.{is_simple, rows_of, subcommand_name_of, subcommand_of}
use Rattle.clap.specs.Words.{subcommand_rows, subcommand_rows_of}
use Rattle.clap.specs.declared.parser.matches.ArgMatches.{ArgMatches}
use Rattle.clap.specs.declared.parser.matches.ArgMatches.TheViews.{out-ArgMatches, out-SubCommand}
use Rattle.clap.specs.declared.parser.matches.SubCommand.{SubCommand}
use Rattle.clap.specs.declared.parser.matches.Found.{Found}
use Rattle.std.specs.Box.{box_value}
use Rattle.acq_program.specs.declared.action.Action.{Action}
use Rattle.acq_program.specs.declared.option_name.OptionName.{OptionName}
use Rattle.acq_program.specs.declared.usage_fault.UsageFault.{UsageFault}
use Rattle.acq_program.specs.declared.usage_fault.UsageFault.TheVariants.{BadValue, Words}
use Rattle.acq_program.specs.Arguments.{Asks, Names, Reads, ReadsArguments}
use Rattle.acq_program.specs.Options.{OptionTexts}
use Rattle.acq_program.specs.Options.{found_texts}
use Rattle.acq_program.specs.Program.{program}
use Rattle.acq_program.proofs.OptionsRead.{found_texts-rows}
use Rattle.acq_program.proofs.ProgramIsSimple.{is_simple-program}

-- an entry that is there, by its first and its second half
both_halves : {A B : Type 0} (o : Option (A × B)) (a : A) (b : B) →
    Some a ≡ option_map (λ p. p.0) o →
    Some b ≡ option_map (λ p. p.1) o → o ≡ Some (a, b)
both_halves None a b h k = cc
both_halves (Some (x, y)) a b h k = cc

names_in : {Z : Type 0} (o : Option (Box SubCommand Z)) →
    option_map (λ b. (out-SubCommand (box_value b)).name.now) o
    ≡ option_map (λ p. p.0) (subcommand_rows o)
names_in None = refl
names_in (Some b) = refl

-- the command that was found is the one that the words name
pub named : (m : ArgMatches) (a : App) (words : List Text) (name : Text) (rows : List Row) →
    a ≡ program →
    HasMatchesOf a words m → Some name ≡ subcommand_name_of m →
    Some rows ≡ option_map (λ p. p.1) (subcommand_rows_of m) →
    subcommand_of program words ≡ Some (name, rows)
named m a words name rows is matches h k =
    let found = matches (ap is_simple is ∙ is_simple-program) in
    ap (λ (x : App). subcommand_of x words) (sym is)
    ∙ (sym found.1
    ∙ both_halves (subcommand_rows_of m) name rows (h ∙ names_in (out-ArgMatches m).subcommand) k)

module _ (name : Text) (Asked : OptionTexts → Result Action OptionName → Type 0)
    (place : (command : Text × List Row) (asked : Result Action OptionName) →
    Names name Asked command asked
    → Asks (Some command) asked)
    (words : List Text) (f : Found) (well : fault_of program words ≡ [])
    (is : subcommand_of program words ≡ Some (name, rows_of f)) where
  asks : (asked : Result Action OptionName) → Asked (found_texts f) asked →
      Asks (subcommand_of program words) asked
  asks asked h =
      subst (λ o. Asks o asked) (sym is)
      (place (name, rows_of f) asked
      (refl, subst (λ texts. Asked texts asked) (found_texts-rows f) h))

  -- what the options were read as is what the arguments are read as
  pub reads_command : (read : Result Action UsageFault) → Reads (Asked (found_texts f)) read →
      ReadsArguments words read
  reads_command (Ok action) h = (well, asks (Ok action) h)
  reads_command (Err (BadValue name)) h = (well, asks (Err name) h)
  reads_command (Err (Words error)) h = inl h
