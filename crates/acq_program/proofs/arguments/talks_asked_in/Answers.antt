-- command by command: what the options were read as is what the arguments ask for
use Rattle.std.proofs.Common.{◌∙◌, Some, codes, ap, sym, refl, inl, inr}
use Rattle.clap.specs.Words.{found_of, rows_of}
use Rattle.acq_program.specs.Arguments.{AsksAsk, AsksAudit, AsksExplain, AsksMake, AsksPage}
use Rattle.acq_program.specs.Arguments.{AsksStatus, AsksTell}
use Rattle.acq_program.specs.Program.{program}
use Rattle.acq_program.proofs.AskedCommands.{named, reads_command}
use Rattle.acq_program.proofs.arguments.talks_asked_in.Goals as goal

pub returns-in-Some-tell-default : goal.returns-in-Some-tell-default
returns-in-Some-tell-default c = λ words well matches.
    let it = c.in-Some-tell-default in
    let found = found_of it.options.now in
    reads_command (codes "tell") AsksTell
    (λ command asked h. inr (inr (inr (inr (inr (inr (inr (inr (inr (inr (inl h))))))))))) words found
    well
    (named c.args.matches.now program words (codes "tell") (rows_of found) refl
    matches (ap Some (sym it.is-tell) ∙ it.ensures.name)
    it.ensures.rows)
    c.tell_of.result c.tell_of.ensures

pub returns-in-Some-status-default : goal.returns-in-Some-status-default
returns-in-Some-status-default c = λ words well matches.
    let it = c.in-Some-status-default in
    let found = found_of it.options.now in
    reads_command (codes "status") AsksStatus
    (λ command asked h. inr (inr (inr (inr (inr (inr (inr (inr (inr (inr (inr (inl h))))))))))))
    words found well
    (named c.args.matches.now program words (codes "status") (rows_of found) refl
    matches (ap Some (sym it.is-status) ∙ it.ensures.name)
    it.ensures.rows)
    c.status_of.result c.status_of.ensures

pub returns-in-Some-make-default : goal.returns-in-Some-make-default
returns-in-Some-make-default c = λ words well matches.
    let it = c.in-Some-make-default in
    let found = found_of it.options.now in
    reads_command (codes "make") AsksMake
    (λ command asked h. inr (inr (inr (inr (inr (inr (inr (inr (inr (inr (inr (inr (inl h)))))))))))))
    words found
    well
    (named c.args.matches.now program words (codes "make") (rows_of found) refl
    matches (ap Some (sym it.is-make) ∙ it.ensures.name)
    it.ensures.rows)
    c.make_of.result c.make_of.ensures

pub returns-in-Some-ask-default : goal.returns-in-Some-ask-default
returns-in-Some-ask-default c = λ words well matches.
    let it = c.in-Some-ask-default in
    let found = found_of it.options.now in
    reads_command (codes "ask") AsksAsk
    (λ command asked h. inr (inr (inr (inr (inr (inr (inr (inr (inr (inr (inr (inr (inr (inl h))))))))))))))
    words found well
    (named c.args.matches.now program words (codes "ask") (rows_of found) refl
    matches (ap Some (sym it.is-ask) ∙ it.ensures.name)
    it.ensures.rows)
    c.ask_of.result c.ask_of.ensures

pub returns-in-Some-explain-default : goal.returns-in-Some-explain-default
returns-in-Some-explain-default c = λ words well matches.
    let it = c.in-Some-explain-default in
    let found = found_of it.options.now in
    reads_command (codes "explain") AsksExplain
    (λ command asked h.
    inr (inr (inr (inr (inr (inr (inr (inr (inr (inr (inr (inr (inr (inr (inl h)))))))))))))))
    words found well
    (named c.args.matches.now program words (codes "explain") (rows_of found) refl
    matches (ap Some (sym it.is-explain) ∙ it.ensures.name)
    it.ensures.rows)
    c.explain_of.result c.explain_of.ensures

pub returns-in-Some-page-default : goal.returns-in-Some-page-default
returns-in-Some-page-default c = λ words well matches.
    let it = c.in-Some-page-default in
    let found = found_of it.options.now in
    reads_command (codes "page") AsksPage
    (λ command asked h.
    inr (inr (inr (inr (inr (inr (inr (inr (inr (inr (inr (inr (inr (inr (inr (inr (inr (inr (inr (inl h))))))))))))))))))))
    words found well
    (named c.args.matches.now program words (codes "page") (rows_of found) refl
    matches (ap Some (sym it.is-page) ∙ it.ensures.name)
    it.ensures.rows)
    c.page_of.result c.page_of.ensures

pub returns-in-Some-audit-default : goal.returns-in-Some-audit-default
returns-in-Some-audit-default c = λ words well matches.
    let it = c.in-Some-audit-default in
    let found = found_of it.options.now in
    reads_command (codes "audit") AsksAudit
    (λ command asked h.
    inr (inr (inr (inr (inr (inr (inr (inr (inr (inr (inr (inr (inr (inr (inr (inr (inr (inr (inr (inr h))))))))))))))))))))
    words found well
    (named c.args.matches.now program words (codes "audit") (rows_of found) refl
    matches (ap Some (sym it.is-audit) ∙ it.ensures.name)
    it.ensures.rows)
    c.audit_of.result c.audit_of.ensures
