use Rattle.std.proofs.Common.{◌≡◌, true, ◌∙◌, ◌++◌, ap, sym, refl, take}
use Rattle.std.specs.Prelude.{flat_map}
use Rattle.std.specs.Str.{bytes_eq}
use Rattle.acq_core.specs.declared.merchant.Merchant.{Merchant}
use Rattle.acq_core.specs.Tables.{Tables}
use Rattle.acq_reports.proofs.Chains.{looks_more}
use Rattle.acq_statement.specs.Sums.{sums_of}
use Rattle.acq_statement.specs.Currencies.{merchants_in, totals_of_days}
use Rattle.acq_statement.proofs.Summing.{failed_next, passed_next}
use Rattle.acq_statement.proofs.currency_records.currency_sums.Goals.{then-eq+in_ok-sums, else-eq}
use Rattle.acq_statement.proofs.currency_records.currency_sums.Goals as goal

pub loop-merchant-preserved : goal.loop-merchant-preserved
loop-merchant-preserved g c =
    let book = g.B.Book in
    let loop = c.loop-merchant in
    let days = c.args.days.now in
    let all = c.args.merchants.now in
    let merchant = c.merchant-item.result in
    let currency = c.args.currency in
    let first = book.tables c.args.book.now in
    let passes = λ (row : Merchant). bytes_eq row.currency currency in
    let test : c.eq.result ≡ bytes_eq merchant.currency currency =
    rw (← c.to_bytes.ensures.value, ← c.to_bytes-in-loop-merchant.ensures.value) c.eq.ensures in
    elim c.if-eq.branch [
      | then-eq+in_ok-sums w ↦
          let looks = w.in_ok-sums.ensures.looks in
          rw (w.book-is, w.sums-is) (
            looks_more book.tables book.is_honest book.is_open book.may_leave book.leaves_books
                book.failures book.store_faults c.args.book.now loop.book w.with_days.new.book
                true loop.invariant.0 looks,
            w.in_ok-sums.ensures.store ∙ loop.invariant.1,
            (λ honest opened.
                let was = looks.was_honest honest in
                let middle = loop.invariant.0.stays_open refl was opened in
                let same = loop.invariant.0.same middle in
                let so = merchants_in currency (take loop.merchant-index all) in
                w.in_ok-sums.ensures.sums honest middle
                (flat_map (totals_of_days first days) so) (loop.invariant.2 was opened)
                ∙ (ap (λ (t : Tables). sums_of (flat_map (totals_of_days first days) so
                ++ totals_of_days t days merchant)) same
                ∙ ap sums_of (passed_next all loop.merchant-index merchant
                c.loop-merchant-test.true c.merchant-item.is passes (totals_of_days first days)
                (sym test ∙ w.if-eq.true)))),
          )
      | else-eq w ↦
          rw (w.book-is, w.sums-is) (
            loop.invariant.0,
            loop.invariant.1,
            (λ honest opened.
                loop.invariant.2 honest opened
                ∙ ap (λ rows. sums_of (flat_map (totals_of_days first days) rows))
                (failed_next all loop.merchant-index merchant c.loop-merchant-test.true
                c.merchant-item.is passes (sym test ∙ w.if-eq.false))),
          )
    ]
