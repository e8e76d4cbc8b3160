use Rattle.std.proofs.Common.{◌∙◌, ◌++◌, List, ap, subst, codes, refl}
use Rattle.std.proofs.lemmas.Result.{err_from_is_err_and}
use Rattle.std.specs.Prelude.{Err, Ok, Result}
use Rattle.clap.specs.Words.{Text, found_of}
use Rattle.acq_program.specs.declared.action.Action.{Action}
use Rattle.acq_program.specs.declared.action.Action.TheVariants.{Replay}
use Rattle.acq_faults.specs.declared.report_kind.ReportKind.TheVariants as kinds
use Rattle.acq_program.specs.declared.usage_fault.UsageFault.{UsageFault}
use Rattle.acq_program.specs.Arguments.{AsksReplay, Reads}
use Rattle.acq_program.specs.Options.{DayIs, GivesReports, GroupIs, LimitIs}
use Rattle.acq_program.specs.Arguments.{ReplayBehind, ReplayBy, ReplayOn}
use Rattle.acq_program.specs.Arguments.{ReplayUpTo, ReplayWith}
use Rattle.acq_program.specs.Options.{ReportsAre, found_texts}
use Rattle.acq_program.proofs.OptionsRead.{first_fails, no_memory, texts_found, then_rest}
use Rattle.acq_program.proofs.arguments.replay_of.Goals as goal

pub returns-in_err-limit : goal.returns-in_err-limit
returns-in_err-limit c =
    let texts = found_texts (found_of c.args.options.now) in
    let p = err_from_is_err_and c.from_residual.result c.from_residual.ensures.1 in
    rw (p.1, p.2)
    (first_fails (LimitIs texts) (ReplayUpTo texts) c.in_err-limit.field-0.0
    c.in_err-limit.ensures)

pub returns-in_err-first_day : goal.returns-in_err-first_day
returns-in_err-first_day c =
    let texts = found_texts (found_of c.args.options.now) in
    let p = err_from_is_err_and c.from_residual-in_err-first_day.result
    c.from_residual-in_err-first_day.ensures.1 in
    rw (p.1, p.2)
    (then_rest (LimitIs texts) (ReplayUpTo texts) c.in_ok-limit.limit
    (Err c.in_err-first_day.field-0.0) c.in_ok-limit.ensures
    (first_fails (DayIs texts) (ReplayOn texts c.in_ok-limit.limit) c.in_err-first_day.field-0.0
    c.in_err-first_day.ensures))

pub returns-in_err-group : goal.returns-in_err-group
returns-in_err-group c =
    let texts = found_texts (found_of c.args.options.now) in
    let limit = c.in_ok-limit.limit in
    let day = c.in_ok-first_day.first_day in
    let fault = c.in_err-group.field-0.0 in
    let p = err_from_is_err_and c.from_residual-in_err-group.result
    c.from_residual-in_err-group.ensures.1 in
    rw (p.1, p.2)
    (then_rest (LimitIs texts) (ReplayUpTo texts) limit (Err fault) c.in_ok-limit.ensures
    (then_rest (DayIs texts) (ReplayOn texts limit) day (Err fault) c.in_ok-first_day.ensures
    (first_fails (GroupIs texts) (ReplayBy texts limit day) fault c.in_err-group.ensures)))

pub returns-in_err-add_reports : goal.returns-in_err-add_reports
returns-in_err-add_reports c =
    let f = found_of c.args.options.now in
    let texts = found_texts f in
    let limit = c.in_ok-limit.limit in
    let day = c.in_ok-first_day.first_day in
    let group = c.in_ok-group.group in
    let fault = c.in_err-add_reports.field-0.0 in
    let p = err_from_is_err_and c.from_residual-in_err-add_reports.result
    c.from_residual-in_err-add_reports.ensures.1 in
    rw (p.1, p.2)
    (then_rest (LimitIs texts) (ReplayUpTo texts) limit (Err fault) c.in_ok-limit.ensures
    (then_rest (DayIs texts) (ReplayOn texts limit) day (Err fault) c.in_ok-first_day.ensures
    (then_rest (GroupIs texts) (ReplayBy texts limit day) group (Err fault) c.in_ok-group.ensures
    (first_fails (ReportsAre kinds.Clearing texts.clearing) (ReplayWith texts limit day group) fault
    (subst (λ (t : List Text). Reads (ReportsAre kinds.Clearing t) (Err fault))
    (texts_found f (codes "clearing") c.get_strs.result c.get_strs.ensures)
    c.in_err-add_reports.ensures.refused)))))

pub returns-in_err-add_reports-2 : goal.returns-in_err-add_reports-2
returns-in_err-add_reports-2 c =
    let f = found_of c.args.options.now in
    let texts = found_texts f in
    let limit = c.in_ok-limit.limit in
    let day = c.in_ok-first_day.first_day in
    let group = c.in_ok-group.group in
    let fault = c.in_err-add_reports-2.field-0.0 in
    let turned = c.from_residual-in_err-add_reports-2 in
    let p = err_from_is_err_and turned.result turned.ensures.1 in
    let first = c.in_ok-add_reports.ensures.added in
    rw (p.1, p.2)
    (then_rest (LimitIs texts) (ReplayUpTo texts) limit (Err fault) c.in_ok-limit.ensures
    (then_rest (DayIs texts) (ReplayOn texts limit) day (Err fault) c.in_ok-first_day.ensures
    (then_rest (GroupIs texts) (ReplayBy texts limit day) group (Err fault) c.in_ok-group.ensures
    (then_rest (ReportsAre kinds.Clearing texts.clearing) (ReplayWith texts limit day group) first.0
    (Err fault)
    (subst (λ (t : List Text). GivesReports kinds.Clearing t first.0)
    (texts_found f (codes "clearing") c.get_strs.result c.get_strs.ensures) first.1)
    (first_fails (ReportsAre kinds.Settlement texts.report)
    (ReplayBehind texts limit day group first.0) fault
    (subst (λ (t : List Text). Reads (ReportsAre kinds.Settlement t) (Err fault))
    (texts_found f (codes "report") c.get_strs-2.result c.get_strs-2.ensures)
    c.in_err-add_reports-2.ensures.refused))))))

pub returns-in_err-book : goal.returns-in_err-book
returns-in_err-book c =
    let texts = found_texts (found_of c.args.options.now) in
    let p = err_from_is_err_and c.from_residual-in_err-book.result
    c.from_residual-in_err-book.ensures.1 in
    rw (p.1, p.2)
    (no_memory (AsksReplay texts) c.in_err-book.field-0.0 c.in_err-book.ensures.refused)

pub returns : goal.returns
returns c =
    let f = found_of c.args.options.now in
    let texts = found_texts f in
    let limit = c.in_ok-limit.limit in
    let day = c.in_ok-first_day.first_day in
    let group = c.in_ok-group.group in
    let first = c.in_ok-add_reports.ensures.added in
    let second = c.in_ok-add_reports-2.ensures.added in
    let read : Result Action UsageFault = Ok (Replay (record {
      book = c.in_ok-book.book;
      limit = limit;
      first_day = day;
      group = group;
      reports = c.add_reports-2.new.reports;
    })) in
    then_rest (LimitIs texts) (ReplayUpTo texts) limit read c.in_ok-limit.ensures
    (then_rest (DayIs texts) (ReplayOn texts limit) day read c.in_ok-first_day.ensures
    (then_rest (GroupIs texts) (ReplayBy texts limit day) group read c.in_ok-group.ensures
    (then_rest (ReportsAre kinds.Clearing texts.clearing) (ReplayWith texts limit day group) first.0
    read
    (subst (λ (t : List Text). GivesReports kinds.Clearing t first.0)
    (texts_found f (codes "clearing") c.get_strs.result c.get_strs.ensures) first.1)
    (then_rest (ReportsAre kinds.Settlement texts.report)
    (ReplayBehind texts limit day group first.0) second.0 read
    (subst (λ (t : List Text). GivesReports kinds.Settlement t second.0)
    (texts_found f (codes "report") c.get_strs-2.result c.get_strs-2.ensures) second.1) (
      c.in_ok-book.ensures.given,
      refl,
      refl,
      refl,
      second.2 ∙ ap (λ x. x ++ second.0)
          (first.2 ∙ ap (λ x. x ++ first.0) c.new-reports.ensures.items),
    )))))
