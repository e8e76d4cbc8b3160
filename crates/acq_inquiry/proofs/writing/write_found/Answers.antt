use Rattle.std.proofs.Common.{◌∙◌, ℕ, List, ap₂, subst}
use Rattle.std.specs.Prelude.{None}
use Rattle.acq_reports.specs.Writing.{Writes}
use Rattle.acq_inquiry.specs.InquiryTexts.{inquiry_text}
use Rattle.acq_inquiry.proofs.writing.write_found.Goals as goal

pub returns-clause-text : goal.returns-clause-text
returns-clause-text g c = λ honest opened.
    let t = g.B.Book.tables c.args.book.now in
    let asks = c.of-search.ensures.asks in
    let made = c.as_slice.ensures.value
    ∙ c.in_ok-text.ensures.text honest opened (c.of-search.ensures.fresh t)
    ∙ ap₂ (λ m asked. inquiry_text t m asked None) asks.0 asks.1 in
    subst (λ (text : List ℕ). Writes g.K.Sink.sent g.K.Sink.failures text c.args.writer.now
    c.put_text.new.writer c.put_text.result) made c.put_text.ensures.text
