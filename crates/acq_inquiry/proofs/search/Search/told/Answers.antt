use Rattle.std.proofs.Common.{◌≡◌, ◌∙◌, ap₂, flat_map, refl, subst}
use Rattle.std.specs.Prelude.{IfOk}
use Rattle.acq_inquiry.specs.Inquiries.{found_at}
use Rattle.acq_inquiry.specs.InquiryTexts.{text_of_told}
use Rattle.acq_inquiry.specs.KeptPostings.{told_with}
use Rattle.acq_inquiry.specs.Searching.{IsWhole, row_at}
use Rattle.acq_inquiry.proofs.Searched.{told_is}
use Rattle.acq_inquiry.proofs.search.Search.told.Goals as goal

pub returns-clause-text : goal.returns-clause-text
returns-clause-text g c = λ honest opened is.
    let t = g.B.Book.tables c.args.book.now in
    let was = c.in_ok-posted.ensures in
    let posted = c.in_ok-posted.posted in
    let honest1 = c.written.ensures.looks.was_honest honest in
    let opened1 = was.looks.stays_open refl honest1 opened in
    let same = was.looks.same opened1 in
    let whole : IsWhole t posted = record {
      searched = was.goes honest1 opened is.searched;
      seen = was.seen ∙ is.seen;
      looked = was.looked ∙ is.looked;
    } in
    subst (λ xs. IfOk c.written.result (λ text. text.items ≡ xs))
    ((λ i. told_with posted.days.items (same i) (flat_map (row_at (same i)) posted.places.items))
    ∙ told_is t (g.met.B.Book.past c.args.book.now opened) posted whole
    ∙ ap₂ (λ m inquiry. text_of_told t (found_at t m inquiry)) was.asks.0 was.asks.1)
    (c.written.ensures.text honest opened1)
