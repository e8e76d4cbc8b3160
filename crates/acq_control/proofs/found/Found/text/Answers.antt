use Rattle.std.proofs.Common.{◌≡◌, ℕ, List, Some, ap₂, subst}
use Rattle.std.specs.Prelude.{IfOk}
use Rattle.acq_inquiry.specs.InquiryTexts.{inquiry_text}
use Rattle.acq_control.specs.Found.{most_told}
use Rattle.acq_control.specs.Unmade.{MayBeUnmade}
use Rattle.acq_control.proofs.found.Found.text.Goals as goal

-- the search that went over rows asks for this
pub returns-in-Some-clause-text : goal.returns-in-Some-clause-text
returns-in-Some-clause-text g c = λ honest opened may.
    let t = g.B.Book.tables c.args.book.now in
    let search = c.in-Some.ensures in
    subst (λ (xs : List ℕ). IfOk c.text.result (λ text. text.items ≡ xs))
    (ap₂ (λ m inquiry. inquiry_text t m inquiry (Some most_told)) search.1.0 search.1.1)
    (c.text.ensures.text honest opened (subst (MayBeUnmade t) search.0 may))

-- so does one that went over none
pub returns-in-None-clause-text : goal.returns-in-None-clause-text
returns-in-None-clause-text g c = λ honest opened may.
    let t = g.B.Book.tables c.args.book.now in
    let search = c.of-search.ensures in
    subst (λ (xs : List ℕ). IfOk c.text-in-None.result (λ text. text.items ≡ xs))
    (ap₂ (λ m inquiry. inquiry_text t m inquiry (Some most_told)) search.asks.0 search.asks.1)
    (c.text-in-None.ensures.text honest opened (search.fresh t))
