use Rattle.std.proofs.Common.{◌≡◌, ◌∙◌, ap, subst, sym}
use Rattle.acq_recall.specs.declared.recalling_book.RecallingBook.{RecallingBook}
use Rattle.acq_sql.specs.declared.once_book.OnceBook.{OnceBook}
use Rattle.acq_sql.specs.Opened.{is_honest, leaves_books, may_leave}
use Rattle.acqd.specs.Hosts.{tables}
use Rattle.acqd.proofs.RunsLeft.{left_by}
use Rattle.acqd.proofs.stopped_runs.given_up.Goals as goal

pub returns-clause-books : goal.returns-clause-books
returns-clause-books g c honest opened =
    let same : c.into_book-3.result ≡ c.run-ran.new.self.book.book =
    c.into_book-3.ensures
    ∙ (ap (λ (b : OnceBook _). b.book) c.into_book-2.ensures
    ∙ ap (λ (r : RecallingBook (OnceBook _)). r.book.book) c.into_book.ensures.book) in
    subst (leaves_books g.S.Store) (sym same)
    (c.run-ran.ensures.books (subst (is_honest g.S.Store) same honest) opened)

pub returns-clause-left : goal.returns-clause-left
returns-clause-left g c honest opened t stays =
    let same : c.into_book-3.result ≡ c.run-ran.new.self.book.book =
    c.into_book-3.ensures
    ∙ (ap (λ (b : OnceBook _). b.book) c.into_book-2.ensures
    ∙ ap (λ (r : RecallingBook (OnceBook _)). r.book.book) c.into_book.ensures.book) in
    let was_honest = subst (is_honest g.S.Store) same honest in
    let leaves = subst (λ b. may_leave g.S.Store b t) same stays in (
      left_by (tables g.S.Store c.args.host) t
          c.args.events.now c.run-ran.result
          (c.run-ran.ensures.stop was_honest opened t leaves)
          (c.run-ran.ensures.fault_stop was_honest opened t leaves),
      c.run-ran.ensures.left was_honest opened t leaves,
    )
