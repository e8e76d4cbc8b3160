use Rattle.std.proofs.Common.{◌≡◌, rules, map, subst, IfOk}
use Rattle.std.specs.Prelude.{filter}
use Rattle.std.specs.Map.Iter.{deref}
use Rattle.std.proofs.lemmas.Iterator.Consumers.{map_from_collect, YieldsList-at}
use Rattle.std.proofs.lemmas.Iterator.Consumers.{YieldsList-from_filter}
use Rattle.std.proofs.lemmas.Iterator.Consumers.{YieldsList-from_rest}
use borrow.Author.Tests.{tests}
use Rattle.indexmap.specs.IndexMap.{values}
use Rattle.acq_core.specs.declared.request.Request.{Request}
use Rattle.acq_core.specs.Tables.{is_pending}
use Rattle.acq_lists.proofs.requests.Requests.waiting.Goals as goal

pub returns : goal.returns
returns c =
    subst (λ s. IfOk c.collect.result (λ rows. map deref rows.items
    ≡ filter (λ row. is_pending row.status) s.rows)) c.self.view_is
    (map_from_collect _ c.collect.ensures.ran
    (YieldsList-from_filter _ (λ (row : Request). is_pending row.status)
    (YieldsList-at c.filter.ensures.source
    (YieldsList-from_rest (values c.self.inside.rows) c.values.ensures.rest))
    c.filter.ensures.closure (λ x r q k. search (rules, tests))))
