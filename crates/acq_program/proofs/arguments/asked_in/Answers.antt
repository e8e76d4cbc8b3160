-- command by command: what the options were read as is what the arguments ask for
use Rattle.std.proofs.Common.{◌∙◌, Some, codes, ap, sym, refl, inl, inr}
use Rattle.clap.specs.Words.{found_of, rows_of}
use Rattle.acq_program.specs.Arguments.{AsksInit, AsksListen, AsksMigrate}
use Rattle.acq_program.specs.Arguments.{AsksOnce, AsksReplay}
use Rattle.acq_program.specs.Program.{program}
use Rattle.acq_program.proofs.AskedCommands.{named, reads_command}
use Rattle.acq_program.proofs.arguments.asked_in.Goals as goal

pub returns-in-Some-init-default : goal.returns-in-Some-init-default
returns-in-Some-init-default c = λ words well matches.
    let it = c.in-Some-init-default in
    let found = found_of it.options.now in
    reads_command (codes "init") AsksInit (λ command asked h. inl h) words found
    well
    (named c.args.matches.now program words (codes "init") (rows_of found) refl
    matches (ap Some (sym it.is-init) ∙ it.ensures.name) it.ensures.rows)
    c.init_of.result c.init_of.ensures

pub returns-in-Some-replay-default : goal.returns-in-Some-replay-default
returns-in-Some-replay-default c = λ words well matches.
    let it = c.in-Some-replay-default in
    let found = found_of it.options.now in
    reads_command (codes "replay") AsksReplay (λ command asked h. inr (inr (inl h))) words found
    well
    (named c.args.matches.now program words (codes "replay") (rows_of found) refl
    matches (ap Some (sym it.is-replay) ∙ it.ensures.name) it.ensures.rows)
    c.replay_of.result c.replay_of.ensures

pub returns-in-Some-once-default : goal.returns-in-Some-once-default
returns-in-Some-once-default c = λ words well matches.
    let it = c.in-Some-once-default in
    let found = found_of it.options.now in
    reads_command (codes "once") AsksOnce (λ command asked h. inr (inl h)) words found
    well
    (named c.args.matches.now program words (codes "once") (rows_of found) refl
    matches (ap Some (sym it.is-once) ∙ it.ensures.name) it.ensures.rows)
    c.once_of.result c.once_of.ensures

pub returns-in-Some-listen-default : goal.returns-in-Some-listen-default
returns-in-Some-listen-default c = λ words well matches.
    let it = c.in-Some-listen-default in
    let found = found_of it.options.now in
    reads_command (codes "listen") AsksListen
    (λ command asked h. inr (inr (inr (inr (inr (inr (inr (inl h)))))))) words found
    well
    (named c.args.matches.now program words (codes "listen") (rows_of found) refl
    matches (ap Some (sym it.is-listen) ∙ it.ensures.name) it.ensures.rows)
    c.listen_of.result c.listen_of.ensures

pub returns-in-Some-migrate-default : goal.returns-in-Some-migrate-default
returns-in-Some-migrate-default c = λ words well matches.
    let it = c.in-Some-migrate-default in
    let found = found_of it.options.now in
    reads_command (codes "migrate") AsksMigrate
    (λ command asked h. inr (inr (inr (inr (inr (inr (inr (inr (inl h))))))))) words found
    well
    (named c.args.matches.now program words (codes "migrate") (rows_of found) refl
    matches (ap Some (sym it.is-migrate) ∙ it.ensures.name)
    it.ensures.rows)
    c.migrate_of.result c.migrate_of.ensures
