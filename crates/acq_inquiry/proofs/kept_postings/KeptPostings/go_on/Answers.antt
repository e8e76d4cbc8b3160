use Rattle.std.proofs.Common.{◌∙◌, refl, subst, sym, true}
use Rattle.std.specs.List.{All}
use Rattle.std.proofs.lemmas.List.Elements.{All-push}
use Rattle.acq_book.proofs.Chains.{looks_more}
use Rattle.acq_inquiry.specs.KeptPostings.{IsKept}
use Rattle.acq_inquiry.proofs.kept_postings.KeptPostings.go_on.Goals as goal

pub loop-day-preserved : goal.loop-day-preserved
loop-day-preserved g c =
    let book = g.B.Book in
    let loop = c.loop-day in
    let looks = c.in_ok-next.ensures.looks in
    let m = c.args.self.now.merchant in
    let references = c.args.self.now.references.now in
    let days = c.args.self.now.days.now in (
      looks_more book.tables book.is_honest book.is_open book.may_leave book.leaves_books
          book.failures book.store_faults c.args.book.now loop.book c.go_on_in.new.book true
          loop.invariant.0 looks,
      c.in_ok-next.ensures.store ∙ loop.invariant.1,
      (λ honest opened all.
          let was = looks.was_honest honest in
          let middle = loop.invariant.0.stays_open refl was opened in
          let same = loop.invariant.0.same middle in
          let one = subst (λ t. IsKept t m references c.in_ok-next.next) same
          (c.in_ok-next.ensures.goes honest middle
          (subst (λ t. All (IsKept t m references) days) (sym same) all)) in
          let kept = IsKept (book.tables c.args.book.now) m references in
          subst (All kept) (sym c.in_ok-put_day.ensures)
          (All-push kept loop.days.items c.in_ok-next.next (loop.invariant.2 was opened all) one)),
    )
