-- the host took the events so far within the group
use Rattle.std.proofs.Common.{take}
use Rattle.acq_host.proofs.Groups.{TookWithin}
use Rattle.acq_host.proofs.host.Host.take_each.Given as goal

abbrev pub invariant-loop-event : goal.invariant-loop-event
invariant-loop-event g l = record {
  took : TookWithin g.B.Book l.fn.self l.self (take l.event-index l.events) l.said.items;
}
