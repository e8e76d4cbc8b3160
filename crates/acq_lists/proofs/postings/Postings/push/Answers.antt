use Rattle.std.proofs.Common.{◌≡◌, ◌∙◌, ℕ, ◌++◌, ◌∷◌, [], ap, sym, arith, eqb, true, if◌then◌else◌}
use Rattle.std.proofs.Common.{rules}
use Rattle.std.specs.Prelude.{◌&&◌, is_ok}
use Rattle.std.specs.Str.{bytes_eq}
use Rattle.acq_core.specs.declared.posting.Posting.{Posting}
use Rattle.acq_lists.specs.declared.merchant_day.MerchantDay.{MerchantDay}
use Rattle.acq_book.proofs.Counting.{count-le}
use Rattle.acq_lists.specs.Sums.{sums_in}
use Rattle.acq_lists.proofs.Days.{sums_more}
use Rattle.acq_lists.proofs.postings.Postings.push.Goals as goal

pub count_posting-number-requires-clause-small : goal.count_posting-number-requires-clause-small
count_posting-number-requires-clause-small c =
    let key : MerchantDay = record { merchant = c.args.posting.merchant; day = c.args.posting.day }
    in
    let rows = c.self.inside.rows in
    omega (
      arith,
      ap (λ s. s.posted) (c.self.invariant.sums key),
      count-le (λ row. bytes_eq row.1.merchant key.merchant && eqb row.1.day key.day) rows.items,
      rows.ok,
      rows.small,
    )

pub count_posting-number-requires-clause-fits : goal.count_posting-number-requires-clause-fits
count_posting-number-requires-clause-fits c = search rules

pub invariant_of-self : goal.invariant_of-self
invariant_of-self c =
    let s = c.self.inside in
    let y : ℕ × Posting = (c.count_posting-number.result, c.args.posting) in
    let fits : is_ok c.push.result ≡ true =
    c.push.ensures.succeeds (omega (
      arith,
      c.self.invariant.room_rows,
      c.requires.room,
      ap (λ t. t.room) c.self.view_is,
    )) in
    let grown : c.push.new.self.items ≡ s.rows.items ++ y ∷ [] =
    c.push.ensures.items ∙ ap (λ b. if b then s.rows.items ++ y ∷ [] else s.rows.items) fits in
    record {
      sums =
          λ k. sums_more s.rows.items y s.sums c.count_posting-number.new.sums c.self.invariant.sums
          c.count_posting-number.ensures.sums k
          ∙ sym (ap (λ rows. sums_in rows k) grown);
      room_rows =
          omega (
            arith,
            c.self.invariant.room_rows,
            c.requires.room,
            c.push.ensures.upper_bound,
            c.push.ensures.capacity,
            ap (λ t. t.room) c.self.view_is,
          );
      room_sums = omega (arith, c.self.invariant.room_sums, c.count_posting-number.ensures.spare);
    }

pub returns-clause-rows : goal.returns-clause-rows
returns-clause-rows c = search rules
