use Rattle.std.proofs.Common.{◌++◌, ◌∷◌, []}
use Rattle.indexmap.specs.IndexMap.{get}
use Rattle.acq_core.specs.Tables.{used_in, requests_of}
use Rattle.acq_lists.specs.declared.merchant_day.MerchantDay.{MerchantDay}
use Rattle.acq_lists.specs.Keys.{day_eq}
use Rattle.acq_recall.proofs.CountedRows.{used_push, day_is, counted, uncounted}
use Rattle.acq_recall.proofs.counts.count_used.Goals as goal

pub returns-then-request : goal.returns-then-request
returns-then-request c rows says =
    let y = c.args.request.now in
    counted day_eq day_is (λ (k : MerchantDay). used_in (requests_of k.merchant rows) k.day)
    (λ k. used_in (requests_of k.merchant (rows ++ y ∷ [])) k.day)
    (record { merchant = y.key.merchant; day = y.day }) y.admitted (used_push rows y)
    (get day_eq c.args.counts.now.entries) (get day_eq c.use_one.new.counts.entries)
    c.if-request.true c.use_one.ensures says

pub returns-else-request : goal.returns-else-request
returns-else-request c rows says =
    let y = c.args.request.now in
    uncounted day_eq day_is (λ (k : MerchantDay). used_in (requests_of k.merchant rows) k.day)
    (λ k. used_in (requests_of k.merchant (rows ++ y ∷ [])) k.day)
    (record { merchant = y.key.merchant; day = y.day }) y.admitted (used_push rows y)
    (get day_eq c.args.counts.now.entries) c.if-request.false says
