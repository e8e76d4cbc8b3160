use Rattle.std.proofs.Common.{◌≡◌, ◌∷◌, [], ℕ, List, Result, subst}
use Rattle.std.specs.Prelude.{IfOk, Vec}
use Rattle.std.specs.declared.alloc.Global.{Global}
use Rattle.acq_core.specs.Tables.{Tables}
use Rattle.acq_book.specs.declared.book_fault.BookFault.{BookFault}
use Rattle.acq_statement.specs.Gathered.{Asks, only}
use Rattle.acq_statement.specs.Statement.{statement_text}
use Rattle.acq_statement.specs.declared.gathering.Gathering.{Gathering}
use Rattle.acq_control.specs.Stated.{text_stated}
use Rattle.acq_control.specs.Unmade.{MayBeUnmade}
use Rattle.acq_control.specs.declared.merchant_statement.MerchantStatement.{MerchantStatement}
use Rattle.acq_control.proofs.stated.Stated.text.Goals as goal

-- what is gathered for this has its text
same_text : (t : Tables) (asked : MerchantStatement) (gathering : Gathering)
    (result : Result (Vec ℕ Global) BookFault) →
    Asks asked.merchant asked.day asked.form gathering →
    IfOk result (λ text. text.items
    ≡ statement_text t (gathering.merchant ∷ []) (only gathering.day) gathering.form) →
    IfOk result (λ text. text.items ≡ text_stated t asked)
same_text t asked gathering result asks is =
    subst (λ (l : List ℕ). IfOk result (λ text. text.items ≡ l))
    (λ i. statement_text t (asks.0 i ∷ []) (only (asks.1 i)) (asks.2 i)) is

pub returns-in-Some-clause-text : goal.returns-in-Some-clause-text
returns-in-Some-clause-text g c = λ honest opened may.
    let t = g.B.Book.tables c.args.book.now in
    same_text t c.args.self.now.asked c.in-Some.gathering.now c.text.result c.in-Some.ensures.1
    (c.text.ensures.text honest opened
    (subst (λ unmade. MayBeUnmade t unmade) c.in-Some.ensures.0 may))

pub returns-in-None-clause-text : goal.returns-in-None-clause-text
returns-in-None-clause-text g c = λ honest opened may.
    let t = g.B.Book.tables c.args.book.now in
    same_text t c.args.self.now.asked c.of-gathering.result c.text-in-None.result
    c.of-gathering.ensures.asks
    (c.text-in-None.ensures.text honest opened (c.of-gathering.ensures.fresh t))
