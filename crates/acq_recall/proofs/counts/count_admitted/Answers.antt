use Rattle.std.proofs.Common.{◌∙◌, ℕ, List, sym, ◌++◌, ◌∷◌, []}
use Rattle.std.specs.Prelude.{is_some}
use Rattle.indexmap.specs.IndexMap.{get}
use Rattle.acq_core.specs.Tables.{admitted_in, requests_of}
use Rattle.acq_book.proofs.Counting.{text_is}
use Rattle.acq_book.specs.Keys.{merchant_eq}
use Rattle.acq_recall.proofs.CountedRows.{admitted_push, counted, uncounted}
use Rattle.acq_recall.proofs.counts.count_admitted.Goals as goal

pub returns-then-is_some : goal.returns-then-is_some
returns-then-is_some c rows says =
    let y = c.args.request.now in
    counted merchant_eq text_is (λ (m : List ℕ). admitted_in (requests_of m rows))
    (λ m. admitted_in (requests_of m (rows ++ y ∷ []))) y.key.merchant (is_some y.reference)
    (admitted_push rows y) (get merchant_eq c.args.counts.now.entries)
    (get merchant_eq c.admit_one.new.counts.entries)
    (sym c.is_some.ensures ∙ c.if-is_some.true) c.admit_one.ensures says

pub returns-else-is_some : goal.returns-else-is_some
returns-else-is_some c rows says =
    let y = c.args.request.now in
    uncounted merchant_eq text_is (λ (m : List ℕ). admitted_in (requests_of m rows))
    (λ m. admitted_in (requests_of m (rows ++ y ∷ []))) y.key.merchant (is_some y.reference)
    (admitted_push rows y) (get merchant_eq c.args.counts.now.entries)
    (sym c.is_some.ensures ∙ c.if-is_some.false) says
