-- What passed over the connections of a listener.
use Rattle.std.specs.Prelude.{ℕ, List}
use Rattle.acq_tcp.specs.declared.tcp_connections.TcpConnections.{TcpConnections}

module _ {T : Type 0} where
  abbrev pub received_of : TcpConnections T → List ℕ
  received_of c = c.received.bytes

  abbrev pub sent_of : TcpConnections T → List ℕ
  sent_of c = c.sent.bytes

  abbrev pub read_failures_of : TcpConnections T → ℕ
  read_failures_of c = c.received.failures

  abbrev pub write_failures_of : TcpConnections T → ℕ
  write_failures_of c = c.sent.failures
