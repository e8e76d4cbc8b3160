-- the texts of the items so far were put
use Rattle.std.proofs.Common.{true}
use Rattle.std.specs.Prelude.{Ok}
use Rattle.acq_statement.specs.Parts.{PutsPart}
use Rattle.acq_statement.proofs.Parts.{first_texts}
use Rattle.acq_statement.proofs.part.put_each.Given as goal

abbrev pub invariant-loop-item : goal.invariant-loop-item
invariant-loop-item g l =
    PutsPart g.B.Book g.K.Sink.sent g.K.Sink.failures
    (first_texts g.B.Book g.K.Sink.sent g.K.Sink.failures (g.P.Part.text l.part) l.items
    l.item-index) l.fn.book l.book l.fn.report l.report (Ok true)
