use Rattle.std.proofs.lemmas.Result.{err_from_is_err_and}
use Rattle.std.proofs.Common.{refl}
use Rattle.std.specs.Prelude.{Ok}
use Rattle.acq_program.specs.declared.action.Action.TheVariants.{Migrate}
use Rattle.clap.specs.Words.{found_of}
use Rattle.acq_program.specs.Arguments.{IsMigrate}
use Rattle.acq_program.specs.Options.{FileIs, found_texts}
use Rattle.acq_program.proofs.OptionsRead.{first_fails, then_rest}
use Rattle.acq_program.proofs.arguments.migrate_of.Goals as goal

pub returns-in_err-path : goal.returns-in_err-path
returns-in_err-path c =
    let texts = found_texts (found_of c.args.options.now) in
    let p = err_from_is_err_and c.from_residual.result c.from_residual.ensures.1 in
    rw (p.1, p.2)
    (first_fails (FileIs texts) IsMigrate c.in_err-path.field-0.0 c.in_err-path.ensures)

pub returns : goal.returns
returns c =
    let texts = found_texts (found_of c.args.options.now) in
    then_rest (FileIs texts) IsMigrate c.in_ok-path.path (Ok (Migrate c.in_ok-path.path))
    c.in_ok-path.ensures refl
