use Rattle.std.proofs.Common.{◌∙◌, ap, subst, take, List, ℕ}
use Rattle.acq_page.specs.Requests.{IsAskedBy, longest_head}
use Rattle.acq_page.proofs.http_connection.HttpConnection.feed.Goals as goal

pub returns-clause-asked : goal.returns-clause-asked
returns-clause-asked c =
    let P : List ℕ → Type 0 = λ front. IsAskedBy front c.asked_by.result in
    subst P (c.front_of.ensures ∙ ap (take longest_head) c.as_slice.ensures.value)
    c.asked_by.ensures
