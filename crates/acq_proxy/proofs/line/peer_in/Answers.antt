-- the words, put together again
use Rattle.std.proofs.Common.{codes, sym}
use Rattle.acq_proxy.proofs.Words.{six_words}
use Rattle.acq_proxy.proofs.line.peer_in.Goals as goal

pub returns : goal.returns
returns c = record {
  source = c.in_ok-source.source.now;
  destination = c.in_ok-destination.destination.now;
  port = c.in_ok-port.port.now;
  other_port = c.in_ok-port.other_port.now;
  spelled =
      rw (c.new.ensures.ip, sym c.in_ok-ip.ensures.family)
      (six_words _ (codes "PROXY") _ _ _ _ _ _ _ _ _ c.in_ok-words_in.ensures c.in_ok-family.ensures
      c.in_ok-source.ensures c.in_ok-destination.ensures c.in_ok-port.ensures);
  address = rw c.new.ensures.ip c.in_ok-ip.ensures.spelled;
  of_port = rw c.new.ensures.port c.in_ok-port_in-2.ensures;
}
