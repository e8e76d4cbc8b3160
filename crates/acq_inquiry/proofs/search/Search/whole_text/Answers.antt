use Rattle.std.proofs.Common.{◌≡◌, ◌∙◌, ap₂, refl, subst, sym}
use Rattle.std.specs.Prelude.{IfOk, None}
use Rattle.acq_inquiry.specs.Inquiries.{found_at}
use Rattle.acq_inquiry.specs.InquiryTexts.{inquiry_text, text_of_told}
use Rattle.acq_inquiry.specs.Searching.{IsWhole}
use Rattle.acq_inquiry.proofs.search.Search.whole_text.Goals as goal

pub returns-clause-text : goal.returns-clause-text
returns-clause-text g c = λ honest opened is.
    let t = g.B.Book.tables c.args.book.now in
    let was = c.in_ok-whole.ensures in
    let whole = c.in_ok-whole.whole in
    let honest1 = c.told.ensures.looks.was_honest honest in
    let opened1 = was.looks.stays_open refl honest1 opened in
    let same = was.looks.same opened1 in
    let found = was.whole honest1 opened is in
    subst (λ xs. IfOk c.told.result (λ text. text.items ≡ xs))
    ((λ i. text_of_told (same i) (found_at (same i) whole.merchant whole.inquiry))
    ∙ ap₂ (λ m inquiry. inquiry_text t m inquiry None) was.asks.0 was.asks.1)
    (c.told.ensures.text honest opened1 (subst (λ u. IsWhole u whole) (sym same) found))
