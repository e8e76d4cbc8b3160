use Rattle.std.proofs.Common.{◌≡◌, ◌∙◌, ℕ, ◌++◌, ◌∷◌, [], ap, sym, arith, eqb, true, if◌then◌else◌}
use Rattle.std.specs.Prelude.{◌&&◌, is_ok}
use Rattle.std.specs.Str.{bytes_eq}
use Rattle.acq_core.specs.declared.reconciliation.Reconciliation.{Reconciliation}
use Rattle.acq_core.specs.Tables.{count}
use Rattle.acq_lists.specs.Keys.{day_of_reconciliation}
use Rattle.acq_book.specs.Order.{last_of}
use Rattle.acq_lists.specs.Sums.{reconciliations_in}
use Rattle.acq_book.proofs.Counting.{count-le}
use Rattle.acq_lists.proofs.Days.{last_more, number_more}
use Rattle.acq_lists.proofs.reconciliations.Reconciliations.push.Goals as goal

pub put_next-number-requires-clause-small : goal.put_next-number-requires-clause-small
put_next-number-requires-clause-small c =
    let k = day_of_reconciliation c.args.row.now in
    let rows = c.self.inside.rows in
    omega (
      arith,
      c.self.invariant.number k,
      count-le (λ row. bytes_eq row.1.merchant k.merchant && eqb row.1.day k.day) rows.items,
      rows.ok,
      rows.small,
    )

pub invariant_of-self : goal.invariant_of-self
invariant_of-self c =
    let s = c.self.inside in
    let y : ℕ × Reconciliation = (c.put_next-number.result, c.args.row.now) in
    let fits : is_ok c.push.result ≡ true =
    c.push.ensures.succeeds (omega (
      arith,
      c.self.invariant.room_rows,
      c.requires,
      ap (λ t. t.room) c.self.view_is,
    )) in
    let grown : c.push.new.self.items ≡ s.rows.items ++ y ∷ [] =
    c.push.ensures.items ∙ ap (λ b. if b then s.rows.items ++ y ∷ [] else s.rows.items) fits in
    record {
      last =
          λ k. last_more s.rows.items y s.last c.put_next-number.new.last c.self.invariant.last
          c.put_next-number.ensures.last k
          ∙ sym (ap (λ rows. last_of (reconciliations_in rows k)) grown);
      number =
          λ k. number_more s.rows.items y s.last c.put_next-number.new.last
          c.put_next-number.ensures.number
          c.self.invariant.number c.put_next-number.ensures.last k
          ∙ sym (ap (count (λ row. bytes_eq row.1.merchant k.merchant && eqb row.1.day k.day))
          grown);
      room_rows =
          omega (
            arith,
            c.self.invariant.room_rows,
            c.requires,
            c.push.ensures.upper_bound,
            c.push.ensures.capacity,
            ap (λ t. t.room) c.self.view_is,
          );
      room_last = omega (arith, c.self.invariant.room_last, c.put_next-number.ensures.spare);
    }
