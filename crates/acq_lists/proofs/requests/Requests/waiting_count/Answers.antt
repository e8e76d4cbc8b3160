use Rattle.std.proofs.Common.{◌∙◌, ap, filter, length, rules}
use Rattle.std.proofs.lemmas.Iterator.Consumers.{count_from_yields_List, YieldsList-at}
use Rattle.std.proofs.lemmas.Iterator.Consumers.{YieldsList-from_filter}
use Rattle.std.proofs.lemmas.Iterator.Consumers.{YieldsList-from_rest}
use borrow.Author.Tests.{tests}
use Rattle.indexmap.specs.IndexMap.{values}
use Rattle.acq_core.specs.declared.request.Request.{Request}
use Rattle.acq_core.specs.Tables.{is_pending}
use Rattle.acq_lists.proofs.requests.Requests.waiting_count.Goals as goal

pub returns : goal.returns
returns c =
    count_from_yields_List c.filter.result _ c.count.ensures.ran
    (YieldsList-from_filter _ (λ (row : Request). is_pending row.status)
    (YieldsList-at c.filter.ensures.source
    (YieldsList-from_rest (values c.self.inside.rows) c.values.ensures.rest))
    c.filter.ensures.closure (λ x r q k. search (rules, tests)))
    ∙ ap (λ s. length (filter (λ (row : Request). is_pending row.status) s.rows)) c.self.view_is
