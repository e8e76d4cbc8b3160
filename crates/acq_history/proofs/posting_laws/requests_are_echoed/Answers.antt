use Rattle.acq_history.proofs.EchoesOfRequests.{replies_echo, answered_replies_echo}
use Rattle.acq_history.proofs.posting_laws.requests_are_echoed.Goals as goal

pub returns : goal.returns
returns c =
    record {
      replies = replies_echo;
      answered = answered_replies_echo;
    }
