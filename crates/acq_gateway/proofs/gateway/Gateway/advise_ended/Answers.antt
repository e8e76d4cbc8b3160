-- one row more
use Rattle.std.proofs.Common.{◌∙◌, ◌++◌, [], ap, inr, refl, subst, true}
use Rattle.acq_core.specs.Tables.{Tables}
use Rattle.acq_book.proofs.Chains.{looks_more}
use Rattle.acq_gateway_lines.specs.Slices.{IsSliceOf}
use Rattle.acq_gateway.proofs.Saying.{says_both, says_one}
use Rattle.acq_gateway.proofs.gateway.Gateway.advise_ended.Goals as goal

pub loop-preserved : goal.loop-preserved
loop-preserved g c =
    let book = g.B.Book in
    let inv = c.loop.invariant in
    let one = c.in_ok-slice.ensures in (
      looks_more book.tables book.is_honest book.is_open book.may_leave book.leaves_books
          book.failures book.store_faults c.args.host.now c.loop.host c.gateway_slice.new.self true
          inv.0 one.looks,
      one.store ∙ inv.1,
      (λ h o.
          let was = one.looks.was_honest h in
          let still = inv.0.stays_open refl was o in
          let is = subst (λ (t : Tables). IsSliceOf t c.args.moment [] c.saturating_sub.result 1
          c.in_ok-slice.slice)
          (inv.0.same still) (one.slice h still) in
          says_both (book.tables c.args.host.now) c.args.moment c.args.self.now c.loop.self _
          (inv.2 was o)
          (says_one (book.tables c.args.host.now) c.args.moment c.loop.self _
          c.in_ok-slice.slice.text.items
          (inr (inr (c.saturating_sub.result, c.in_ok-slice.slice, is, refl)))
          (c.in_ok-extend_from_slice.ensures.items
          ∙ ap (λ l. c.loop.self.output.items ++ l) c.as_slice.ensures.value) refl refl refl)),
    )
