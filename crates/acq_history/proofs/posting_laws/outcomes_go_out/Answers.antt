use Rattle.acq_history.proofs.OutputsOfOutcomes.{replies_go_out, only_replies_go_out}
use Rattle.acq_history.proofs.OutputsOfOutcomes.{queries_go_out, only_queries_go_out}
use Rattle.acq_history.proofs.posting_laws.outcomes_go_out.Goals as goal

pub returns : goal.returns
returns c =
    record {
      replies = replies_go_out;
      only_replies = only_replies_go_out;
      queries = queries_go_out;
      only_queries = only_queries_go_out;
    }
