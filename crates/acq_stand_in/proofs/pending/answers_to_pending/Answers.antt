use Rattle.std.proofs.Common.{◌≡◌, ◌∙◌, refl, subst, sym}
use Rattle.acq_book.specs.Lookups.{waiting_at}
use Rattle.acq_reports.specs.Writing.{Puts}
use Rattle.acq_reports.proofs.Lines.{Progress, finished, progress, progress_any}
use Rattle.acq_stand_in.specs.Pending.{answer_line, is_of_day, line_on_day, pending_text}
use Rattle.acq_stand_in.proofs.LinesOfDay.{lines_of_some}
use Rattle.acq_stand_in.proofs.pending.answers_to_pending.Goals as goal

pub returns-clause-text : goal.returns-clause-text
returns-clause-text g c = λ honest opened.
    let sent = g.K.Sink.sent in
    let failures = g.K.Sink.failures in
    let issuers = c.args.issuers in
    let moment = c.args.moment in
    let day = c.args.day in
    let tables = g.B.Book.tables c.args.book.now in
    let rows = waiting_at tables in
    let start = c.new in
    let walked = c.walk_pending-walked in
    let lines =
    progress sent failures (λ v. v.report) (line_on_day issuers.now moment day)
    (λ v. (v.issuers ≡ issuers) × (v.moment ≡ moment) × (v.day ≡ day))
    (λ old row more new. Puts sent failures (line_on_day old.issuers.now old.moment old.day row)
    old.report more new.report
    × (new.issuers ≡ old.issuers) × (new.moment ≡ old.moment) × (new.day ≡ old.day))
    (λ v row more u kept seen. (
      subst (λ d. Puts sent failures (line_on_day issuers.now moment d row) v.report more u.report)
          kept.2
          (subst
          (λ m. Puts sent failures (line_on_day issuers.now m v.day row) v.report more u.report)
          kept.1
          (subst
          (λ i. Puts sent failures (line_on_day i.now v.moment v.day row) v.report more u.report)
          kept.0 seen.0)),
      (seen.1 ∙ kept.0, seen.2 ∙ kept.1, seen.3 ∙ kept.2),
    ))
    rows _ walked.new.visitor walked.result (refl, refl, refl) (walked.ensures.seen honest opened)
    (walked.ensures.begun honest opened) in
    finished sent failures (pending_text issuers.now moment day tables) start.result
    walked.new.visitor.report walked.result c.args.writer.now
    _ c.end.result
    start.ensures.written start.ensures.stop start.ensures.writer
    (λ same. c.writer-1.given.1 (sym start.ensures.same_writer ∙ same)) c.end.ensures
    (subst
    (λ text. Progress sent failures text start.result walked.new.visitor.report walked.result)
    (lines_of_some (is_of_day day) (answer_line issuers.now moment) rows) lines)

-- a failed write is told whichever rows were walked
pub returns-clause-writes : goal.returns-clause-writes
returns-clause-writes g c =
    let sent = g.K.Sink.sent in
    let failures = g.K.Sink.failures in
    let start = c.new in
    let walked = c.walk_pending-walked in
    let any = progress_any sent failures (λ v. v.report)
    (λ old row more new. Puts sent failures (line_on_day old.issuers.now old.moment old.day row)
    old.report more new.report
    × (new.issuers ≡ old.issuers) × (new.moment ≡ old.moment) × (new.day ≡ old.day))
    (λ v row more u seen. (line_on_day v.issuers.now v.moment v.day row, seen.0))
    _ walked.new.visitor walked.result walked.ensures.shown in
    (finished sent failures any.0 start.result walked.new.visitor.report walked.result
    c.args.writer.now _ c.end.result
    start.ensures.written start.ensures.stop start.ensures.writer
    (λ same. c.writer-1.given.1 (sym start.ensures.same_writer ∙ same)) c.end.ensures any.1).1
