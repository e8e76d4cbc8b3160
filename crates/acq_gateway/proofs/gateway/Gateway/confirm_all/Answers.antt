-- one answer more
use Rattle.std.proofs.Common.{◌∙◌, inl, refl, ap, subst, true}
use Rattle.acq_core.specs.Tables.{Tables}
use Rattle.acq_book.proofs.Chains.{looks_more}
use Rattle.acq_gateway.specs.Telling.{IsOutcome, outcome_line}
use Rattle.acq_gateway.proofs.Saying.{says_both, says_none, says_one}
use Rattle.acq_gateway.proofs.gateway.Gateway.confirm_all.Goals as goal

pub returns-in_default-clause-says : goal.returns-in_default-clause-says
returns-in_default-clause-says g c = λ h o moment.
    let t = g.B.Book.tables c.args.host.now in
    let none = c.next_taken.ensures in
    says_both t moment c.args.self.now c.loop.self c.next_taken.new.self
    (c.loop.invariant.2 h o moment)
    (says_none t moment c.loop.self c.next_taken.new.self none.output none.rows none.from
    none.gone)

pub loop-preserved : goal.loop-preserved
loop-preserved g c =
    let book = g.B.Book in
    let inv = c.loop.invariant in
    let one = c.in_ok-outcome.ensures in (
      looks_more book.tables book.is_honest book.is_open book.may_leave book.leaves_books
          book.failures book.store_faults c.args.host.now c.loop.host c.answer_outcome.new.self true
          inv.0 one.looks,
      one.store ∙ inv.1,
      (λ h o moment.
          let t = book.tables c.args.host.now in
          let was = one.looks.was_honest h in
          let still = inv.0.stays_open refl was o in
          let answer = c.in-Some.answer in
          let line = outcome_line answer.merchant answer.reference c.in_ok-outcome.outcome in
          let is = subst (λ (t : Tables). IsOutcome t moment line) (inv.0.same still) (
            answer.merchant,
            answer.reference,
            answer.verdict,
            ap (outcome_line answer.merchant answer.reference) (one.outcome h still),
          ) in
          let none = c.next_taken.ensures in
          let put = c.in_ok-put_outcome.ensures in
          says_both t moment c.args.self.now c.loop.self c.put_outcome.new.self
          (inv.2 was o moment)
          (says_both t moment c.loop.self c.next_taken.new.self c.put_outcome.new.self
          (says_none t moment c.loop.self c.next_taken.new.self none.output none.rows none.from
          none.gone)
          (says_one t moment c.next_taken.new.self c.put_outcome.new.self line (inl is)
          put.output put.rows put.from put.gone))),
    )
