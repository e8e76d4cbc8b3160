use Rattle.std.proofs.Common.{◌≡◌, Bool, rules, map, subst, sym, IfOk}
use Rattle.std.specs.Prelude.{◌&&◌, filter}
use Rattle.std.specs.Map.Iter.{deref}
use Rattle.std.specs.Str.{bytes_eq}
use Rattle.std.proofs.lemmas.Iterator.Consumers.{map_from_collect, YieldsList-at}
use Rattle.std.proofs.lemmas.Iterator.Consumers.{YieldsList-from_filter}
use Rattle.std.proofs.lemmas.Iterator.Consumers.{YieldsList-from_rest}
use borrow.Author.Tests.{tests}
use Rattle.indexmap.specs.IndexMap.{values}
use Rattle.acq_core.specs.declared.request.Request.{Request}
use Rattle.acq_core.specs.Tables.{is_approved, requests_of}
use Rattle.acq_book.specs.Lookups.{is_authorization}
use Rattle.acq_lists.proofs.Places.{filter-filter}
use Rattle.acq_lists.proofs.requests.Requests.holds.Goals as goal

pub returns : goal.returns
returns c =
    let p : Request → Bool = λ row. bytes_eq row.key.merchant c.args.merchant in
    let q : Request → Bool = λ row. is_authorization row.key.service && is_approved row.status in
    subst (λ s. IfOk c.collect.result (λ rows. map deref rows.items
    ≡ filter q (requests_of c.args.merchant s.rows))) c.self.view_is
    (subst (λ l. IfOk c.collect.result (λ rows. map deref rows.items ≡ l))
    (sym (filter-filter p q (values c.self.inside.rows)))
    (map_from_collect _ c.collect.ensures.ran
    (YieldsList-from_filter _ (λ (row : Request). p row && q row)
    (YieldsList-at c.filter.ensures.source
    (YieldsList-from_rest (values c.self.inside.rows) c.values.ensures.rest))
    c.filter.ensures.closure (λ x r q k. search (rules, tests)))))
