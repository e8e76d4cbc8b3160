-- command by command: what the options were read as is what the arguments ask for
use Rattle.std.proofs.Common.{◌∙◌, Some, codes, ap, sym, refl, inl, inr}
use Rattle.clap.specs.Words.{found_of, rows_of}
use Rattle.acq_program.specs.Arguments.{AsksHolds, AsksList, AsksPending, AsksRanges, AsksShow}
use Rattle.acq_program.specs.Program.{program}
use Rattle.acq_program.proofs.AskedCommands.{named, reads_command}
use Rattle.acq_program.proofs.arguments.texts_asked_in.Goals as goal

pub returns-in-Some-holds-default : goal.returns-in-Some-holds-default
returns-in-Some-holds-default c = λ words well matches.
    let it = c.in-Some-holds-default in
    let found = found_of it.options.now in
    reads_command (codes "holds") AsksHolds
    (λ command asked h.
    inr (inr (inr (inr (inr (inl h))))))
    words found well
    (named c.args.matches.now program words (codes "holds") (rows_of found) refl
    matches (ap Some (sym it.is-holds) ∙ it.ensures.name) it.ensures.rows)
    c.holds_of.result c.holds_of.ensures

pub returns-in-Some-list-default : goal.returns-in-Some-list-default
returns-in-Some-list-default c = λ words well matches.
    let it = c.in-Some-list-default in
    let found = found_of it.options.now in
    reads_command (codes "list") AsksList
    (λ command asked h.
    inr (inr (inr (inr (inr (inr (inr (inr (inr (inr (inr (inr (inr (inr (inr (inl h))))))))))))))))
    words found well
    (named c.args.matches.now program words (codes "list") (rows_of found) refl
    matches (ap Some (sym it.is-list) ∙ it.ensures.name) it.ensures.rows)
    c.list_of.result c.list_of.ensures

pub returns-in-Some-ranges-default : goal.returns-in-Some-ranges-default
returns-in-Some-ranges-default c = λ words well matches.
    let it = c.in-Some-ranges-default in
    let found = found_of it.options.now in
    reads_command (codes "ranges") AsksRanges
    (λ command asked h.
    inr (inr (inr (inr (inr (inr (inr (inr (inr (inr (inr (inr (inr (inr (inr (inr (inr (inr (inl h)))))))))))))))))))
    words found well
    (named c.args.matches.now program words (codes "ranges") (rows_of found) refl
    matches (ap Some (sym it.is-ranges) ∙ it.ensures.name) it.ensures.rows)
    c.ranges_of.result c.ranges_of.ensures

pub returns-in-Some-pending-default : goal.returns-in-Some-pending-default
returns-in-Some-pending-default c = λ words well matches.
    let it = c.in-Some-pending-default in
    let found = found_of it.options.now in
    reads_command (codes "pending") AsksPending
    (λ command asked h.
    inr (inr (inr (inr (inr (inr (inr (inr (inr (inl h))))))))))
    words found well
    (named c.args.matches.now program words (codes "pending") (rows_of found) refl
    matches (ap Some (sym it.is-pending) ∙ it.ensures.name) it.ensures.rows)
    c.pending_of.result c.pending_of.ensures

pub returns-in-Some-show-default : goal.returns-in-Some-show-default
returns-in-Some-show-default c = λ words well matches.
    let it = c.in-Some-show-default in
    let found = found_of it.options.now in
    reads_command (codes "show") AsksShow
    (λ command asked h.
    inr (inr (inr (inr (inr (inr (inl h)))))))
    words found well
    (named c.args.matches.now program words (codes "show") (rows_of found) refl
    matches (ap Some (sym it.is-show) ∙ it.ensures.name) it.ensures.rows)
    c.show_of.result c.show_of.ensures
