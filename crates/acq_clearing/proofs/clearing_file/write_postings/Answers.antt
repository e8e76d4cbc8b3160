use Rattle.std.proofs.Common.{ℕ, List, [], ◌++◌, sym, ◌∙◌}
use Rattle.std.specs.List.{flat_map}
use Rattle.acq_book.specs.Lookups.{postings_at}
use Rattle.acq_reports.specs.Writing.{Puts}
use Rattle.acq_reports.proofs.Lines.{Progress, finished, progress, progress_any, progress_more}
use Rattle.acq_reports.proofs.Lines.{progress_stopped}
use Rattle.acq_clearing.specs.ClearingFile.{posting_line, clearing_header}
use Rattle.acq_clearing.proofs.clearing_file.write_postings.Goals.{then-put, else-put}
use Rattle.acq_clearing.proofs.clearing_file.write_postings.Goals as goal

pub returns-clause-text : goal.returns-clause-text
returns-clause-text g c = λ honest opened.
    let sent = g.K.Sink.sent in
    let failures = g.K.Sink.failures in
    let rows = postings_at (g.B.Book.tables c.args.book.now) c.args.day in
    let lines = flat_map posting_line rows in
    let text = clearing_header ++ lines in
    let start = c.new in
    let rest : Progress sent failures text start.result c.if-put.postings.report c.if-put.walked =
    elim c.if-put.branch [
      | then-put w ↦
          let walked = w.walk_postings-walked in
          let h = rw (w.book-is) at honest in
          let out = progress_more sent failures clearing_header lines start.result c.put.new.self
          walked.new.visitor.report walked.result w.if-put.ensures
          (progress sent failures (λ v. v.report) posting_line (λ v. Unit {0})
          (λ old row more new. Puts sent failures (posting_line row) old.report more new.report)
          (λ v row more u kept seen. (seen, tt))
          rows _ walked.new.visitor walked.result tt (walked.ensures.seen h opened)
          (walked.ensures.begun h opened)) in
          rw (w.postings-is, w.walked-is) out
      | else-put w ↦
          let out = progress_stopped sent failures clearing_header lines start.result c.put.new.self
          w.if-put.ensures.0
          w.if-put.ensures.1 in
          rw (w.postings-is, w.walked-is) out
    ] in
    finished sent failures text start.result c.if-put.postings.report c.if-put.walked
    c.args.writer.now _ c.end.result
    start.ensures.written start.ensures.stop start.ensures.writer
    (λ same. c.writer-1.given.1 (sym start.ensures.same_writer ∙ same)) c.end.ensures rest

-- a failed write is told whichever rows were walked
pub returns-clause-writes : goal.returns-clause-writes
returns-clause-writes g c =
    let sent = g.K.Sink.sent in
    let failures = g.K.Sink.failures in
    let start = c.new in
    let out : (lines : List ℕ) × Progress sent failures (clearing_header ++ lines) start.result
    c.if-put.postings.report c.if-put.walked =
    elim c.if-put.branch [
      | then-put w ↦
          let walked = w.walk_postings-walked in
          let any = progress_any sent failures (λ v. v.report)
          (λ old row more new. Puts sent failures (posting_line row) old.report more new.report)
          (λ v row more u seen. (posting_line row, seen))
          _ walked.new.visitor walked.result walked.ensures.shown in (
            any.0,
            rw (w.postings-is, w.walked-is) (progress_more sent failures clearing_header any.0
                start.result c.put.new.self walked.new.visitor.report walked.result
                w.if-put.ensures any.1),
          )
      | else-put w ↦ (
        [],
        rw (w.postings-is, w.walked-is) (progress_stopped sent failures clearing_header []
            start.result c.put.new.self w.if-put.ensures.0 w.if-put.ensures.1),
      )
    ] in
    (finished sent failures (clearing_header ++ out.0) start.result
    c.if-put.postings.report c.if-put.walked c.args.writer.now _ c.end.result
    start.ensures.written start.ensures.stop start.ensures.writer
    (λ same. c.writer-1.given.1 (sym start.ensures.same_writer ∙ same)) c.end.ensures out.1).1
