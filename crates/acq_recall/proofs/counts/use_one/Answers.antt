use Rattle.std.proofs.Common.{◌∙◌, sym}
use Rattle.indexmap.specs.IndexMap.{get}
use Rattle.acq_lists.specs.Keys.{day_eq}
use Rattle.acq_recall.proofs.CountedRows.{day_is, none_more}
use Rattle.acq_recall.proofs.counts.use_one.Goals as goal

pub returns-in_default : goal.returns-in_default
returns-in_default c =
    none_more day_eq day_is (get day_eq c.args.counts.now.entries) c.args.day.now
    (sym c.get.ensures ∙ (sym c.copied.ensures ∙ c.in_default.is))
