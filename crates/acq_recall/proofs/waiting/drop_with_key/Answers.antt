use Rattle.std.proofs.Common.{rules}
use Rattle.std.proofs.lemmas.Fn.{filter_same}
use Rattle.acq_book.proofs.KeyTests.{key_eq-same}
use Rattle.acq_recall.proofs.waiting.drop_with_key.Goals as goal

pub returns : goal.returns
returns c =
    filter_same _ _ _ (λ row b f called. let same = key_eq-same c.args.key.now row.key in
    search (rules, same)) _ _ c.retain.ensures.filtered
