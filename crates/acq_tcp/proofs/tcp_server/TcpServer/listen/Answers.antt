use Rattle.std.proofs.Common.{[], subst, sym}
use Rattle.acq_tcp.specs.Others.{OthersFollow}
use Rattle.acq_tcp.proofs.tcp_server.TcpServer.listen.Goals as goal

pub returns-in-Ok-clause-none_came : goal.returns-in-Ok-clause-none_came
returns-in-Ok-clause-none_came g c t =
    subst (OthersFollow t []) (sym c.new.ensures) (c.in-Ok.ensures.none_came t)
