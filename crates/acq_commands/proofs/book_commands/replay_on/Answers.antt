use Rattle.std.proofs.Common.{◌≡◌, ◌==◌, [], length, true≢false, sym, ap, subst, ◌∙◌}
use Rattle.std.specs.Prelude.{OnOk}
use Rattle.acq_front.specs.Stops.{left_of}
use Rattle.acq_commands.specs.DayReports.{Takes}
use Rattle.acq_faults.specs.Faults.{CountsStore, TellsStore}
use Rattle.acq_commands.specs.Replay.{Replays, TakesUpTo}
use Rattle.acq_commands.specs.Runs.{EndsWithReports}
use Rattle.acq_commands.specs.Streams.{Stream}
use Rattle.acq_commands.proofs.EventsTaken.{replayed_up_to, taken_up_to, looked_up_to}
use Rattle.acq_commands.proofs.FaultsTold.{tells_both, tells_counted}
use Rattle.acq_commands.proofs.ReportsEnd.{empty_is, ends_with_reports, reads_behind, writes_behind}
use Rattle.acq_commands.proofs.book_commands.replay_on.Goals as goal

pub returns-then-is_empty-clause-takes : goal.returns-then-is_empty-clause-takes
returns-then-is_empty-clause-takes g c = λ h o.
    let began = c.new-host.ensures in
    let ended = c.into_book.ensures.book in
    let opened = subst g.B.Book.is_open (sym began) o in
    let so = c.replay-ended.ensures.replays (subst g.B.Book.is_honest ended h) opened in
    let up = replayed_up_to g.B.Book g.met.B.Book.settled g.met.B.Book.stored c.args.group
    c.new-host.result c.replay-ended.new.host so.0 opened _ c.replay-ended.result so.2 in (
      so.0,
      so.1,
      subst (λ s. TakesUpTo
          (record {
            left = left_of g.B.Book;
            group = c.args.group;
            old = s;
            new = c.into_book.result;
          })
          so.0 c.replay-ended.result)
          began
          (subst (λ s. TakesUpTo
          (record {
            left = left_of g.B.Book;
            group = c.args.group;
            old = c.new-host.result;
            new = s;
          })
          so.0 c.replay-ended.result)
          (sym ended) up),
    )

pub returns-clause-takes : goal.returns-clause-takes
returns-clause-takes g c = λ h o.
    let began = c.new-host.ensures in
    let ended = c.into_book-book.ensures.book in
    let looks = c.report_if_taken-ended.ensures.looks in
    let opened = subst g.B.Book.is_open (sym began) o in
    let so = c.take_events-taken.ensures.takes
    (subst g.B.Book.is_honest ended (looks.1.was_honest h)) opened in
    let up = taken_up_to g.B.Book g.met.B.Book.settled g.met.B.Book.stored c.args.group
    c.new-host.result c.take_events-taken.new.host so.0 opened c.take_events-taken.result so.2 in
    let then = subst (λ s. TakesUpTo
    (record {
      left = left_of g.B.Book;
      group = c.args.group;
      old = c.new-host.result;
      new = s;
    })
    so.0 c.take_events-taken.result) (sym ended) up in (
      so.0,
      so.1,
      subst (λ s. TakesUpTo
          (record {
            left = left_of g.B.Book;
            group = c.args.group;
            old = s;
            new = c.report_if_taken-ended.new.book;
          })
          so.0 c.report_if_taken-ended.result)
          began
          (looked_up_to g.B.Book g.met.B.Book.settled g.met.B.Book.stored c.args.group
          c.new-host.result c.into_book-book.result so.0 c.report_if_taken-ended.new.book looks.0
          c.take_events-taken.result c.report_if_taken-ended.result _
          c.report_if_taken-ended.ensures.stopped h looks.1 then),
    )

pub returns-then-is_empty-clause-store : goal.returns-then-is_empty-clause-store
returns-then-is_empty-clause-store g c =
    let failures = g.B.Book.failures in
    let ended = c.replay-ended.result in
    tells_counted ended _ _ _
    (subst (λ s. CountsStore ended (failures s) (failures c.into_book.result)) c.new-host.ensures
    (subst (λ s. CountsStore ended (failures c.new-host.result) (failures s))
    (sym c.into_book.ensures.book) c.replay-ended.ensures.store))

pub returns-clause-store : goal.returns-clause-store
returns-clause-store g c =
    let it = g.B.Book in
    let taken = c.take_events-taken in
    let ended = c.report_if_taken-ended in
    let start = c.new-host.result in
    let back = sym c.into_book-book.ensures.book in
    subst (λ s. TellsStore ended.result (it.failures s) (it.failures ended.new.book)
    ((c.args.reports.now ≡ [] → ⊥) × (it.is_honest ended.new.book → it.is_open s → ⊥)))
    c.new-host.ensures
    (tells_both it taken.result ended.result start c.into_book-book.result ended.new.book _ _
    (λ none. true≢false (sym (ap (λ l. length l == 0) none)
    ∙ (sym c.is_empty.ensures ∙ c.if-is_empty.false)))
    (subst (λ s. CountsStore taken.result (it.failures start) (it.failures s)) back
    taken.ensures.store)
    (subst (λ s. it.is_honest s → it.is_open start → OnOk taken.result (it.is_open s)) back
    taken.ensures.stays_open)
    ended.ensures.looks.1.was_honest ended.ensures.stopped ended.ensures.unasked
    ended.ensures.store)

-- ---- what went out

pub returns-then-is_empty-clause-lines : goal.returns-then-is_empty-clause-lines
returns-then-is_empty-clause-lines g c = λ none h o.
    let began = c.new-host.ensures in
    let ended = c.into_book.ensures.book in
    let so = c.replay-ended.ensures.replays (subst g.B.Book.is_honest ended h)
    (subst g.B.Book.is_open (sym began) o) in
    let sent : Stream = record {
      before = g.K.Sink.sent c.args.output.now;
      after = g.K.Sink.sent c.replay-ended.new.output;
    } in (
      so.0,
      so.1,
      subst (λ s. Replays
          (record {
            left = left_of g.B.Book;
            group = c.args.group;
            old = s;
            new = c.into_book.result;
          })
          so.0 sent c.replay-ended.result)
          began
          (subst (λ s. Replays
          (record {
            left = left_of g.B.Book;
            group = c.args.group;
            old = c.new-host.result;
            new = s;
          })
          so.0 sent c.replay-ended.result)
          (sym ended) so.2),
    )

pub returns-then-is_empty-clause-reports : goal.returns-then-is_empty-clause-reports
returns-then-is_empty-clause-reports g c = λ some.
    absurd (some (empty_is c.args.reports.now (sym c.is_empty.ensures ∙ c.if-is_empty.true)))

pub returns-clause-lines : goal.returns-clause-lines
returns-clause-lines g c = λ none.
    let full = sym (ap (λ l. length l == 0) none) ∙ (sym c.is_empty.ensures ∙ c.if-is_empty.false)
    in absurd (true≢false full)

pub returns-clause-reports : goal.returns-clause-reports
returns-clause-reports g c = λ some h o.
    let it = g.B.Book in
    let taken = c.take_events-taken in
    let ended = c.report_if_taken-ended in
    let start = c.new-host.result in
    let book = c.into_book-book.result in
    let began = c.new-host.ensures in
    let back = c.into_book-book.ensures.book in
    let looks = ended.ensures.looks in
    let honest = subst it.is_honest back (looks.1.was_honest h) in
    let opened = subst it.is_open (sym began) o in
    let so = taken.ensures.takes honest opened in
    let sent : Stream = record {
      before = g.K.Sink.sent c.args.output.now;
      after = g.K.Sink.sent ended.new.output;
    } in (
      so.0,
      so.1,
      subst (λ s. EndsWithReports
          (record { left = left_of it; group = c.args.group; old = s; new = ended.new.book })
          c.args.reports.now so.0 sent ended.result)
          began
          (ends_with_reports it c.args.group start book ended.new.book c.args.reports.now so.0 sent
          taken.result ended.result
          (subst (λ s. Takes
          (record { left = left_of it; group = c.args.group; old = start; new = s }) so.0
          taken.result) (sym back) so.2)
          ended.ensures.stopped ended.ensures.unasked
          (subst (λ s. OnOk taken.result (it.is_open s)) (sym back)
          (taken.ensures.stays_open honest opened))
          ended.ensures.written h),
    )

pub returns-clause-reads : goal.returns-clause-reads
returns-clause-reads g c =
    reads_behind _ c.take_events-taken.result c.report_if_taken-ended.result _ _
    c.take_events-taken.ensures.reads c.report_if_taken-ended.ensures.stopped
    c.report_if_taken-ended.ensures.fault

pub returns-clause-writes : goal.returns-clause-writes
returns-clause-writes g c =
    writes_behind _ c.take_events-taken.result c.report_if_taken-ended.result _ _
    c.report_if_taken-ended.ensures.stopped c.take_events-taken.ensures.unwritten
    c.report_if_taken-ended.ensures.unwritten c.report_if_taken-ended.ensures.writes
