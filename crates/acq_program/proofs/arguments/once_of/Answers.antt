use Rattle.std.proofs.Common.{refl}
use Rattle.std.proofs.lemmas.Result.{err_from_is_err_and}
use Rattle.std.specs.Prelude.{Ok, Result}
use Rattle.clap.specs.Words.{found_of}
use Rattle.acq_program.specs.declared.action.Action.{Action}
use Rattle.acq_program.specs.declared.action.Action.TheVariants.{Once}
use Rattle.acq_program.specs.declared.usage_fault.UsageFault.{UsageFault}
use Rattle.acq_program.specs.Arguments.{AsksOnce, IsOnce}
use Rattle.acq_program.specs.Options.{MomentIfThere, found_texts}
use Rattle.acq_program.proofs.OptionsRead.{first_fails, no_memory, then_rest}
use Rattle.acq_program.proofs.arguments.once_of.Goals as goal

pub returns-in_err-moment : goal.returns-in_err-moment
returns-in_err-moment c =
    let texts = found_texts (found_of c.args.options.now) in
    let p = err_from_is_err_and c.from_residual.result c.from_residual.ensures.1 in
    rw (p.1, p.2)
    (first_fails (MomentIfThere texts) (IsOnce texts.db texts.issuers) c.in_err-moment.field-0.0
    c.in_err-moment.ensures)

pub returns-in_err-book : goal.returns-in_err-book
returns-in_err-book c =
    let texts = found_texts (found_of c.args.options.now) in
    let p = err_from_is_err_and c.from_residual-in_err-book.result
    c.from_residual-in_err-book.ensures.1 in
    rw (p.1, p.2) (no_memory (AsksOnce texts) c.in_err-book.field-0.0 c.in_err-book.ensures.refused)

pub returns-in_err-issuers : goal.returns-in_err-issuers
returns-in_err-issuers c =
    let texts = found_texts (found_of c.args.options.now) in
    let p = err_from_is_err_and c.from_residual-in_err-issuers.result
    c.from_residual-in_err-issuers.ensures.1 in
    rw (p.1, p.2)
    (no_memory (AsksOnce texts) c.in_err-issuers.field-0.0 c.in_err-issuers.ensures.refused)

pub returns : goal.returns
returns c =
    let texts = found_texts (found_of c.args.options.now) in
    let read : Result Action UsageFault = Ok (Once (record {
      book = c.in_ok-book.book;
      issuers = c.in_ok-issuers.issuers;
      moment = c.in_ok-moment.moment;
    })) in
    then_rest (MomentIfThere texts) (IsOnce texts.db texts.issuers) c.in_ok-moment.moment read
    c.in_ok-moment.ensures
    (c.in_ok-book.ensures.given, c.in_ok-issuers.ensures.given, refl)
