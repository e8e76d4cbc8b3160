use Rattle.acq_history.proofs.EntriesThatPost.{approvals_post, completions_post, reversals_post}
use Rattle.acq_history.proofs.EntriesThatPost.{nothing_else_posts, tables_post}
use Rattle.acq_history.proofs.posting_laws.entries_post_exactly.Goals as goal

pub returns : goal.returns
returns c =
    record {
      approvals = approvals_post;
      completions = completions_post;
      reversals = reversals_post;
      others = nothing_else_posts;
      tables = tables_post;
    }
