use Rattle.std.proofs.lemmas.Result.{err_from_is_err_and}
use Rattle.clap.specs.Words.{found_of}
use Rattle.acq_program.specs.Arguments.{ExplainedIs, IsExplain}
use Rattle.acq_program.specs.Options.{found_texts}
use Rattle.acq_program.proofs.OptionsRead.{first_fails}
use Rattle.acq_program.proofs.arguments.explain_of.Goals as goal

pub returns-in_err-asked : goal.returns-in_err-asked
returns-in_err-asked c =
    let texts = found_texts (found_of c.args.options.now) in
    let p = err_from_is_err_and c.from_residual.result c.from_residual.ensures.1 in
    rw (p.1, p.2)
    (first_fails (ExplainedIs texts) IsExplain c.in_err-asked.field-0.0 c.in_err-asked.ensures)
