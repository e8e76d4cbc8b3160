use Rattle.std.proofs.Common.{◌≡◌, ◌∙◌, ap₂, refl, subst, sym}
use Rattle.std.specs.Prelude.{IfOk, Some}
use Rattle.acq_inquiry.specs.Inquiries.{found_at}
use Rattle.acq_inquiry.specs.InquiryTexts.{inquiry_text, text_of_told}
use Rattle.acq_inquiry.specs.Searching.{IsWhole}
use Rattle.acq_inquiry.proofs.Searched.{few_is, many_is}
use Rattle.acq_inquiry.proofs.search.Search.text_up_to.Goals as goal

pub returns-then-finds_more_than-clause-text : goal.returns-then-finds_more_than-clause-text
returns-then-finds_more_than-clause-text g c = λ honest opened is.
    let t = g.B.Book.tables c.args.book.now in
    let search = c.args.self.now in
    c.in_ok-many_text.ensures
    ∙ many_is t search.merchant search.inquiry c.args.most
    (c.finds_more_than.ensures.more c.if-finds_more_than.true t is)

pub returns-then-finds_more_than-2-clause-text : goal.returns-then-finds_more_than-2-clause-text
returns-then-finds_more_than-2-clause-text g c = λ honest opened is.
    let t = g.B.Book.tables c.args.book.now in
    let whole = c.in_ok-whole.whole in
    let asks = c.in_ok-whole.ensures.asks in
    let found = c.in_ok-whole.ensures.whole honest opened is in
    c.in_ok-many_text-2.ensures
    ∙ many_is t whole.merchant whole.inquiry c.args.most
    (c.finds_more_than-2.ensures.more c.if-finds_more_than-2.true t found.searched)
    ∙ ap₂ (λ m inquiry. inquiry_text t m inquiry (Some c.args.most)) asks.0 asks.1

pub returns-clause-text : goal.returns-clause-text
returns-clause-text g c = λ honest opened is.
    let t = g.B.Book.tables c.args.book.now in
    let was = c.in_ok-whole.ensures in
    let whole = c.in_ok-whole.whole in
    let honest1 = c.told.ensures.looks.was_honest honest in
    let opened1 = was.looks.stays_open refl honest1 opened in
    let same = was.looks.same opened1 in
    let found = was.whole honest1 opened is in
    subst (λ xs. IfOk c.told.result (λ text. text.items ≡ xs))
    ((λ i. text_of_told (same i) (found_at (same i) whole.merchant whole.inquiry))
    ∙ few_is t whole.merchant whole.inquiry c.args.most
    (c.finds_more_than-2.ensures.whole c.if-finds_more_than-2.false t found)
    ∙ ap₂ (λ m inquiry. inquiry_text t m inquiry (Some c.args.most)) was.asks.0 was.asks.1)
    (c.told.ensures.text honest opened1 (subst (λ u. IsWhole u whole) (sym same) found))
