use Rattle.acq_memory_lines.proofs.Reached.{reached, reached_none}
use Rattle.acq_memory_lines.proofs.one_event.take_one_event.Goals as goal

pub returns-clause-reaches : goal.returns-clause-reaches
returns-clause-reaches g c = λ h o.
    let book = g.B.Book in
    let a = c.args.host.now in
    let e = c.args.event.now in
    reached book a c.take.new.self e h o c.in-Ok.ensures.tables

pub returns-in-Err-clause-reaches : goal.returns-in-Err-clause-reaches
returns-in-Err-clause-reaches g c = λ h o.
    let book = g.B.Book in
    let a = c.args.host.now in
    let e = c.args.event.now in
    reached_none book a c.take.new.self e h o g.met.B.Book.settled c.in-Err.ensures.tables
