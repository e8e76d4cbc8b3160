use Rattle.std.proofs.Common.{List, subst}
use Rattle.acq_core.specs.Tables.{Opening}
use Rattle.acq_faults.specs.declared.day_report.DayReport.{DayReport}
use Rattle.acq_commands.specs.Runs.{RunsIn}
use Rattle.acq_commands.specs.Streams.{Stream}
use Rattle.acq_commands.proofs.ReportsEnd.{runs_either}
use Rattle.acq_commands.proofs.replaying_in_memory.replay_in_memory.Goals as goal

pub returns-clause-runs : goal.returns-clause-runs
returns-clause-runs g c =
    let options = c.args.options.now in
    let ran = c.replay_on-ran in
    let book = c.new_list_book-book in
    let opening : Opening = record { limit = options.limit; first_day = options.first_day } in
    let received : Stream = record {
      before = g.S.Source.received c.args.input.now;
      after = g.S.Source.received ran.new.input;
    } in
    let sent : Stream = record {
      before = g.K.Sink.sent c.args.output.now;
      after = g.K.Sink.sent ran.new.output;
    } in
    rw c.end_of.ensures (subst
    (λ (asked : List DayReport). RunsIn options.book opening options.group asked received sent
    ran.result.1)
    c.as_slice-reports.ensures.value
    (runs_either _ options.group opening options.book c.as_slice-reports.result.now book.result
    ran.result.0 received sent ran.result.1 book.ensures.tables
    (λ none. ran.ensures.lines none tt (book.ensures.outside, book.ensures.past))
    (λ some. ran.ensures.reports some tt (book.ensures.outside, book.ensures.past))))
