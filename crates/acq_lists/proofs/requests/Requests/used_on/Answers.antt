use Rattle.std.proofs.Common.{◌∙◌, ap, eqb, rules}
use Rattle.std.specs.Prelude.{◌&&◌}
use Rattle.std.proofs.lemmas.Iterator.Consumers.{count_from_yields_List, YieldsList-at}
use Rattle.std.proofs.lemmas.Iterator.Consumers.{YieldsList-from_filter}
use Rattle.std.proofs.lemmas.Iterator.Consumers.{YieldsList-from_rest}
use borrow.Author.Tests.{tests}
use Rattle.indexmap.specs.IndexMap.{values}
use Rattle.acq_core.specs.declared.request.Request.{Request}
use Rattle.acq_core.specs.Tables.{count}
use Rattle.acq_book.proofs.Counting.{count-length}
use Rattle.acq_lists.proofs.requests.Requests.used_on.Goals as goal

pub returns : goal.returns
returns c =
    count_from_yields_List c.filter.result _ c.count.ensures.ran
    (YieldsList-from_filter _ (λ (row : Request). row.admitted && eqb row.day c.args.day)
    (YieldsList-at c.filter.ensures.source
    (YieldsList-from_rest (values c.self.inside.rows) c.values.ensures.rest))
    c.filter.ensures.closure (λ x r q k. search (rules, tests)))
    ∙ (count-length (λ (row : Request). row.admitted && eqb row.day c.args.day)
    (values c.self.inside.rows)
    ∙ ap (λ s. count (λ (row : Request). row.admitted && eqb row.day c.args.day) s.rows)
    c.self.view_is)
