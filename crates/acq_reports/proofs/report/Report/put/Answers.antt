-- the texts that the calls put in turn are nothing and the text
use Rattle.std.proofs.Common.{[]}
use Rattle.acq_reports.proofs.Lines.{puts_more}
use Rattle.acq_reports.proofs.report.Report.put.Goals as goal

pub returns : goal.returns
returns g c =
    puts_more g.K.Sink.sent g.K.Sink.failures [] c.args.text.now c.args.self.now
    c.send_held.new.self c.send.new.self c.send.result c.if-not-send_held.ensures.puts
    c.send.ensures
