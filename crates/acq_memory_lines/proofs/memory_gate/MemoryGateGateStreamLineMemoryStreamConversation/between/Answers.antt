use Rattle.acq_memory_lines.proofs.Reached.{reached_quietly}
use Rattle.acq_memory_lines.proofs.memory_gate.MemoryGateGateStreamLineMemoryStreamConversation.between.Goals as goal

pub returns-then-not-one_in-clause-reaches : goal.returns-then-not-one_in-clause-reaches
returns-then-not-one_in-clause-reaches g c h o = reached_quietly g.B.Book c.args.host.now
    g.met.B.Book.settled g.met.B.Book.stored o

pub returns-in_default-clause-reaches : goal.returns-in_default-clause-reaches
returns-in_default-clause-reaches g c h o = reached_quietly g.B.Book c.args.host.now
    g.met.B.Book.settled g.met.B.Book.stored o
