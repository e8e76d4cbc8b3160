use Rattle.std.proofs.Common.{true, [], ◌++◌, Err, rules, refl, subst, ◌∙◌}
use Rattle.acq_reports.specs.SettlementReport.{merchant_line}
use Rattle.acq_reports.specs.Writing.{Puts}
use Rattle.acq_reports.proofs.Chains.{looks_more}
use Rattle.acq_reports.proofs.Lines.{progress_more, went_more, went_nothing, went_stopped}
use Rattle.acq_reports.proofs.Settling.{went_here, stopped_here, failed_here}
use Rattle.acq_reports.proofs.settlement_report.write_merchants.Goals as goal

pub returns-in-Ok-false-clause-text : goal.returns-in-Ok-false-clause-text
returns-in-Ok-false-clause-text g c = λ honest opened.
    let sent = g.K.Sink.sent in
    let failures = g.K.Sink.failures in
    let loop = c.loop-name in
    let looks = c.in-Ok-false.ensures.looks in
    let before = looks.was_honest honest in
    let middle = loop.invariant.0.stays_open refl before opened in
    let same = loop.invariant.0.same middle in
    let put = c.in-Ok-false.ensures.put (looks.stays_open refl honest middle) in
    let stopped =
    subst (λ more. Puts sent failures (merchant_line (g.B.Book.tables loop.book) c.args.day
    c.name-item.result) loop.report more c.write_merchant.new.report) c.in-Ok-false.field-0-test put
    in
    stopped_here sent failures (merchant_line (g.B.Book.tables c.args.book.now) c.args.day)
    c.args.names.now
    loop.name-index c.name-item.result c.loop-name-test.true c.name-item.is c.args.report.now
    loop.report
    c.write_merchant.new.report (loop.invariant.1 before opened) (rw (same) at stopped)

pub returns-in-Err-clause-text : goal.returns-in-Err-clause-text
returns-in-Err-clause-text g c = λ honest opened.
    let loop = c.loop-name in
    let before = c.in-Err.ensures.looks.was_honest honest in
    failed_here g.K.Sink.sent g.K.Sink.failures
    (merchant_line (g.B.Book.tables c.args.book.now) c.args.day)
    c.args.names.now loop.name-index c.name-item.result c.loop-name-test.true c.name-item.is
    c.args.report.now
    loop.report c.write_merchant.new.report c.in-Err.fault (loop.invariant.1 before opened)
    c.in-Err.ensures.unput

pub loop-name-preserved : goal.loop-name-preserved
loop-name-preserved g c =
    let sent = g.K.Sink.sent in
    let failures = g.K.Sink.failures in
    let loop = c.loop-name in
    let looks = c.in-Ok-true.ensures.looks in (
      looks_more g.B.Book.tables g.B.Book.is_honest g.B.Book.is_open g.B.Book.may_leave
          g.B.Book.leaves_books g.B.Book.failures g.B.Book.store_faults
          c.args.book.now loop.book c.write_merchant.new.book true loop.invariant.0 looks,
      (λ honest opened.
          let before = looks.was_honest honest in
          let middle = loop.invariant.0.stays_open refl before opened in
          let same = loop.invariant.0.same middle in
          let put = c.in-Ok-true.ensures.put (looks.stays_open refl honest middle) in
          let went = subst (λ more. Puts sent failures
          (merchant_line (g.B.Book.tables loop.book) c.args.day
          c.name-item.result) loop.report more c.write_merchant.new.report)
          c.in-Ok-true.field-0-test put in
          went_here sent failures (merchant_line (g.B.Book.tables c.args.book.now) c.args.day)
          c.args.names.now
          loop.name-index c.name-item.result c.loop-name-test.true c.name-item.is c.args.report.now
          loop.report
          c.write_merchant.new.report (loop.invariant.1 before opened) (rw (same) at went)),
      c.in-Ok-true.ensures.store ∙ loop.invariant.2,
      (let one = c.in-Ok-true.ensures.any in (
        loop.invariant.3.0 ++ one.0,
        went_more sent failures loop.invariant.3.0 one.0 c.args.report.now loop.report
            c.write_merchant.new.report loop.invariant.3.1
            (subst (λ more. Puts sent failures one.0 loop.report more c.write_merchant.new.report)
            c.in-Ok-true.field-0-test one.1),
      )),
    )

-- the same whichever lines they were
pub loop-name-init : goal.loop-name-init
loop-name-init g c = (search rules, search rules, refl, ([], went_nothing _ _ _))

pub returns-in-Ok-false-clause-any : goal.returns-in-Ok-false-clause-any
returns-in-Ok-false-clause-any g c =
    let sent = g.K.Sink.sent in
    let failures = g.K.Sink.failures in
    let so = c.loop-name.invariant.3 in
    let one = c.in-Ok-false.ensures.any in
    let stopped = subst (λ more. Puts sent failures one.0 c.loop-name.report more
    c.write_merchant.new.report) c.in-Ok-false.field-0-test one.1 in (
      so.0 ++ one.0,
      went_stopped sent failures so.0 one.0 c.args.report.now c.loop-name.report
          c.write_merchant.new.report so.1 stopped,
    )

pub returns-in-Err-clause-any : goal.returns-in-Err-clause-any
returns-in-Err-clause-any g c =
    let so = c.loop-name.invariant.3 in
    let one = c.in-Err.ensures.any in (
      so.0 ++ one.0,
      progress_more g.K.Sink.sent g.K.Sink.failures so.0 one.0 c.args.report.now
          c.loop-name.report c.write_merchant.new.report (Err c.in-Err.fault) so.1 one.1,
    )

pub returns-clause-any : goal.returns-clause-any
returns-clause-any g c = c.loop-name.invariant.3
