-- nothing is taken, whether what waits is told or not
use Rattle.acq_tcp.proofs.Reaching.{tells_report}
use Rattle.acq_tcp.proofs.tcp_server.TcpServer.look_at_book.Goals as goal

pub returns-in-Err-clause-store : goal.returns-in-Err-clause-store
returns-in-Err-clause-store g c =
    rw c.fault_of_looking.ensures (tells_report c.in-Err.fault _ _ _ c.in-Err.ensures.store)
