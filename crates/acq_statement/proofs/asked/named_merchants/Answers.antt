use Rattle.std.proofs.Common.{true, ◌∙◌, ◌++◌, [], ap, refl, take}
use Rattle.std.specs.List.{cons_option, filter_map}
use Rattle.acq_book.specs.Lookups.{merchant_at}
use Rattle.acq_reports.proofs.Chains.{looks_more}
use Rattle.acq_statement.proofs.Keeping.{filter_map_next}
use Rattle.acq_statement.proofs.asked.named_merchants.Goals as goal

pub loop-name-preserved : goal.loop-name-preserved
loop-name-preserved g c =
    let book = g.B.Book in
    let loop = c.loop-name in
    let looks = c.in_ok-found.ensures.looks in
    let names = c.args.names.now in
    let name = c.name-item.result in
    let first = book.tables c.args.book.now in (
      looks_more book.tables book.is_honest book.is_open book.may_leave book.leaves_books
          book.failures book.store_faults c.args.book.now loop.book c.merchant.new.self true
          loop.invariant.0 looks,
      c.in_ok-found.ensures.store ∙ loop.invariant.1,
      (λ honest opened.
          let was = looks.was_honest honest in
          let middle = loop.invariant.0.stays_open refl was opened in
          let same = loop.invariant.0.same middle in
          let found = c.in_ok-found.ensures.value (looks.stays_open refl honest middle)
          ∙ ap (λ t. merchant_at t name) same in
          c.in_ok-put_found.ensures
          ∙ (ap (λ rows. rows ++ cons_option c.in_ok-found.found [])
          (loop.invariant.2 was opened)
          ∙ (ap (λ row. filter_map (merchant_at first) (take loop.name-index names)
          ++ cons_option row []) found
          ∙ filter_map_next (merchant_at first) names loop.name-index name
          c.loop-name-test.true c.name-item.is))),
    )
