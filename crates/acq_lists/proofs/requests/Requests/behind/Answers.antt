use Rattle.std.proofs.Common.{◌≡◌, drop, map, subst, IfOk}
use Rattle.std.specs.Map.Iter.{deref}
use Rattle.std.proofs.lemmas.Iterator.Adapters.{YieldsList-from_skip}
use Rattle.std.proofs.lemmas.Iterator.Consumers.{map_from_collect, YieldsList-at}
use Rattle.std.proofs.lemmas.Iterator.Consumers.{YieldsList-from_rest}
use Rattle.indexmap.specs.IndexMap.{values}
use Rattle.acq_lists.proofs.requests.Requests.behind.Goals as goal

pub returns : goal.returns
returns c =
    subst (λ s. IfOk c.collect.result (λ those. map deref those.items ≡ drop c.args.rows s.rows))
    c.self.view_is
    (map_from_collect _ c.collect.ensures.ran
    (YieldsList-from_skip c.args.rows
    (YieldsList-at c.skip.ensures.source
    (YieldsList-from_rest (values c.self.inside.rows) c.values.ensures.rest))
    c.skip.ensures.count))
