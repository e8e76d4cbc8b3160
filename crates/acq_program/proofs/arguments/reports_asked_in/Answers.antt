-- command by command: what the options were read as is what the arguments ask for
use Rattle.std.proofs.Common.{◌∙◌, Some, codes, ap, sym, refl, inl, inr}
use Rattle.clap.specs.Words.{found_of, rows_of}
use Rattle.acq_program.specs.Arguments.{AsksClearing, AsksFind, AsksReport, AsksStatement}
use Rattle.acq_program.specs.Program.{program}
use Rattle.acq_program.proofs.AskedCommands.{named, reads_command}
use Rattle.acq_program.proofs.arguments.reports_asked_in.Goals as goal

pub returns-in-Some-clearing-default : goal.returns-in-Some-clearing-default
returns-in-Some-clearing-default c = λ words well matches.
    let it = c.in-Some-clearing-default in
    let found = found_of it.options.now in
    reads_command (codes "clearing") AsksClearing
    (λ command asked h.
    inr (inr (inr (inl h))))
    words found well
    (named c.args.matches.now program words (codes "clearing") (rows_of found) refl
    matches (ap Some (sym it.is-clearing) ∙ it.ensures.name) it.ensures.rows)
    c.clearing_of.result c.clearing_of.ensures

pub returns-in-Some-report-default : goal.returns-in-Some-report-default
returns-in-Some-report-default c = λ words well matches.
    let it = c.in-Some-report-default in
    let found = found_of it.options.now in
    reads_command (codes "report") AsksReport
    (λ command asked h.
    inr (inr (inr (inr (inl h)))))
    words found well
    (named c.args.matches.now program words (codes "report") (rows_of found) refl
    matches (ap Some (sym it.is-report) ∙ it.ensures.name) it.ensures.rows)
    c.report_of.result c.report_of.ensures

pub returns-in-Some-statement-default : goal.returns-in-Some-statement-default
returns-in-Some-statement-default c = λ words well matches.
    let it = c.in-Some-statement-default in
    let found = found_of it.options.now in
    reads_command (codes "statement") AsksStatement
    (λ command asked h.
    inr (inr (inr (inr (inr (inr (inr (inr (inr (inr (inr (inr (inr (inr (inr (inr (inl h)))))))))))))))))
    words found well
    (named c.args.matches.now program words (codes "statement") (rows_of found) refl
    matches (ap Some (sym it.is-statement) ∙ it.ensures.name) it.ensures.rows)
    c.statement_of.result c.statement_of.ensures

pub returns-in-Some-find-default : goal.returns-in-Some-find-default
returns-in-Some-find-default c = λ words well matches.
    let it = c.in-Some-find-default in
    let found = found_of it.options.now in
    reads_command (codes "find") AsksFind
    (λ command asked h.
    inr (inr (inr (inr (inr (inr (inr (inr (inr (inr (inr (inr (inr (inr (inr (inr (inr (inl h))))))))))))))))))
    words found well
    (named c.args.matches.now program words (codes "find") (rows_of found) refl
    matches (ap Some (sym it.is-find) ∙ it.ensures.name) it.ensures.rows)
    c.find_of.result c.find_of.ensures
