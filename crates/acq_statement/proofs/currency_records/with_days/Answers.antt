use Rattle.std.proofs.Common.{true, ◌∙◌, ◌++◌, ap, refl, take}
use Rattle.std.proofs.lemmas.List.{take_all}
use Rattle.acq_book.specs.Lookups.{totals_at}
use Rattle.day_totals.specs.Totals.{DayTotals}
use Rattle.acq_statement.specs.Sums.{both_totals, capped_totals, sums_of}
use Rattle.acq_reports.proofs.Chains.{looks_more}
use Rattle.acq_statement.specs.Currencies.{totals_of_days}
use Rattle.acq_statement.proofs.Summing.{map_next, sums_more}
use Rattle.acq_statement.proofs.currency_records.with_days.Goals as goal

pub loop-day-preserved : goal.loop-day-preserved
loop-day-preserved g c =
    let book = g.B.Book in
    let loop = c.loop-day in
    let looks = c.in_ok-totals.ensures.looks in
    let days = c.args.days.now in
    let id = c.args.merchant.now.id in (
      looks_more book.tables book.is_honest book.is_open book.may_leave book.leaves_books
          book.failures book.store_faults c.args.book.now loop.book c.totals.new.self true
          loop.invariant.0 looks,
      c.in_ok-totals.ensures.store ∙ loop.invariant.1,
      (λ honest opened all is.
          let was = looks.was_honest honest in
          let middle = loop.invariant.0.stays_open refl was opened in
          let same = loop.invariant.0.same middle in
          let first = book.tables c.args.book.now in
          let found = c.in_ok-totals.ensures.value (looks.stays_open refl honest middle)
          ∙ ap (λ t. totals_at t id c.day-item.result) same in
          let before = totals_of_days first (take loop.day-index days) c.args.merchant.now in
          c.add.ensures
          ∙ (ap (λ (one : DayTotals). capped_totals (both_totals loop.sums one)) found
          ∙ (sums_more (all ++ before) (totals_at first id c.day-item.result) loop.sums
          (loop.invariant.2 was opened all is)
          ∙ ap sums_of (map_next days loop.day-index c.day-item.result c.loop-day-test.true
          c.day-item.is (λ day. totals_at first id day) all)))),
    )

pub returns-clause-sums : goal.returns-clause-sums
returns-clause-sums g c = λ honest opened all is.
    let so = c.loop-day.invariant.2 honest opened all is in
    rw (take_all c.loop-day.day-index c.args.days.now c.loop-day-test.false) at so
