use Rattle.std.proofs.Common.{◌≡◌, ◌∙◌, length, ap, rules}
use Rattle.std.proofs.lemmas.List.{length-map}
use Rattle.acq_book.specs.Lookups.{waiting_at}
use Rattle.acq_commands.specs.Ending.{ended_line, unanswered}
use Rattle.acq_commands.proofs.Answering.{all_answered}
use Rattle.acq_commands.proofs.ending_waiting.answers_and_line.Goals as goal

pub returns-clause-answers : goal.returns-clause-answers
returns-clause-answers g c = λ honest opened.
    all_answered (waiting_at (g.B.Book.tables c.args.book.now)) c.new-waiting.result
    c.walk_pending.new.visitor c.in_ok-answers.answers c.args.moment
    c.new-waiting.ensures.moment c.new-waiting.ensures.answers c.in_ok-answers.ensures.whole
    (c.in_ok-walk_pending.ensures.seen honest opened)

pub returns-clause-line : goal.returns-clause-line
returns-clause-line g c = λ honest opened.
    let rows = waiting_at (g.B.Book.tables c.args.book.now) in
    let all = all_answered rows c.new-waiting.result
    c.walk_pending.new.visitor c.in_ok-answers.answers c.args.moment
    c.new-waiting.ensures.moment c.new-waiting.ensures.answers c.in_ok-answers.ensures.whole
    (c.in_ok-walk_pending.ensures.seen honest opened) in
    let count : c.len.result ≡ length c.in_ok-answers.answers.items = search rules in
    c.in_ok-line.ensures
    ∙ ap ended_line (count ∙ (ap length all ∙ length-map rows (unanswered c.args.moment)))
