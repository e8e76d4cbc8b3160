use Rattle.std.proofs.Common.{ℕ, List, [], ◌++◌, sym, ◌∙◌}
use Rattle.acq_directory.specs.Listings.{records_of}
use Rattle.acq_reports.proofs.Lines.{Progress, finished, progress_more, progress_stopped}
use Rattle.acq_directory.proofs.listing_text.write_listing.Goals.{then-put, else-put}
use Rattle.acq_directory.proofs.listing_text.write_listing.Goals as goal

pub returns-clause-text : goal.returns-clause-text
returns-clause-text g c = λ honest opened.
    let sent = g.K.Sink.sent in
    let failures = g.K.Sink.failures in
    let header = c.header.result.now in
    let lines = records_of c.args.listing (g.B.Book.tables c.args.book.now) in
    let start = c.new in
    let rest : Progress sent failures (header ++ lines) start.result c.if-put.records.report
    c.if-put.walked =
    elim c.if-put.branch [
      | then-put w ↦
          let put = w.put_records-walked in
          let h = rw (w.book-is) at honest in
          let out = progress_more sent failures header lines start.result c.put.new.self
          put.new.records.report put.result w.if-put.ensures (put.ensures.text h opened) in
          rw (w.records-is, w.walked-is) out
      | else-put w ↦
          let out = progress_stopped sent failures header lines start.result c.put.new.self
          w.if-put.ensures.0 w.if-put.ensures.1 in
          rw (w.records-is, w.walked-is) out
    ] in
    let whole = finished sent failures (header ++ lines) start.result c.if-put.records.report
    c.if-put.walked c.args.writer.now _ c.end.result
    start.ensures.written start.ensures.stop start.ensures.writer
    (λ same. c.writer-1.given.1 (sym start.ensures.same_writer ∙ same)) c.end.ensures rest in
    rw (c.header.ensures) at whole

-- a failed write is told whichever rows were walked
pub returns-clause-writes : goal.returns-clause-writes
returns-clause-writes g c =
    let sent = g.K.Sink.sent in
    let failures = g.K.Sink.failures in
    let header = c.header.result.now in
    let start = c.new in
    let out : (lines : List ℕ) × Progress sent failures (header ++ lines) start.result
    c.if-put.records.report c.if-put.walked =
    elim c.if-put.branch [
      | then-put w ↦
          let put = w.put_records-walked in
          let any = put.ensures.any in (
            any.0,
            rw (w.records-is, w.walked-is) (progress_more sent failures header any.0 start.result
                c.put.new.self put.new.records.report put.result w.if-put.ensures any.1),
          )
      | else-put w ↦ (
        [],
        rw (w.records-is, w.walked-is) (progress_stopped sent failures header [] start.result
            c.put.new.self w.if-put.ensures.0 w.if-put.ensures.1),
      )
    ] in
    (finished sent failures (header ++ out.0) start.result
    c.if-put.records.report c.if-put.walked c.args.writer.now _ c.end.result
    start.ensures.written start.ensures.stop start.ensures.writer
    (λ same. c.writer-1.given.1 (sym start.ensures.same_writer ∙ same)) c.end.ensures out.1).1
