use Rattle.std.proofs.Common.{◌∙◌, ◌≤◌, eqb, length, rules, subst, sym}
use Rattle.std.proofs.lemmas.Iterator.{YieldsList-from_slice}
use Rattle.std.proofs.lemmas.Iterator.Consumers.{count_from_yields_List, YieldsList-from_filter}
use borrow.Author.Tests.{tests}
use Rattle.acq_core.specs.declared.request.Request.{Request}
use Rattle.acq_book.proofs.Counting.{count-le, count-length}
use Rattle.acq_recall.proofs.waiting.count_of.Goals as goal

pub returns-clause-count : goal.returns-clause-count
returns-clause-count c =
    count_from_yields_List c.filter.result _ c.count.ensures.ran
    (YieldsList-from_filter _ (λ (row : Request). eqb row.day c.args.day)
    (YieldsList-from_slice c.args.rows.now cc)
    c.filter.ensures.closure (λ x r q k. search (rules, tests)))
    ∙ count-length (λ (row : Request). eqb row.day c.args.day) c.args.rows.now

pub returns-clause-bound : goal.returns-clause-bound
returns-clause-bound c =
    subst (λ n. n ≤ length c.args.rows.now) (sym (returns-clause-count c))
    (count-le (λ (row : Request). eqb row.day c.args.day) c.args.rows.now)
