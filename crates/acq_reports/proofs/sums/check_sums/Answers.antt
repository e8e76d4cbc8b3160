use Rattle.std.proofs.Common.{[], refl, sym, subst}
use Rattle.acq_core.specs.Tables.{Tables}
use Rattle.acq_book.specs.Lookups.{postings_at}
use Rattle.acq_reports.specs.DaySums.{AddUpTo}
use Rattle.acq_reports.specs.Faults.{StoreFailed}
use Rattle.acq_reports.proofs.Adding.{add_up, all_added, none_yet}
use Rattle.acq_reports.proofs.Chains.{told_since, unequal_later}
use Rattle.acq_reports.proofs.sums.check_sums.Goals as goal

pub returns-clause-store : goal.returns-clause-store
returns-clause-store g c =
    let book = g.B.Book in
    let day = c.args.day in
    let start = c.args.book.now in
    let walk = c.in_ok-walk_postings.ensures in
    let between = c.walk_postings.new.self in
    let seen = c.walk_postings.new.visitor in
    let after = c.check_totals.new.book in
    let sums = c.add_idle.new.self.by_merchant in
    told_since _ (StoreFailed book start after) (book.failures after)
    (unequal_later book start between after _ walk.looks c.check_totals.ensures.looks
    (AddUpTo (book.tables between) day sums)
    (λ honest opened.
    let opened_still = walk.looks.stays_open refl honest opened in
    let added = all_added (postings_at (book.tables start) day) [] _ seen
    (walk.seen honest opened) c.if-sums.false (none_yet c.new-2.result c.new-2.ensures.empty) in
    subst (λ (t : Tables). AddUpTo t day sums) (sym (walk.looks.same opened_still))
    (subst (λ s. AddUpTo (book.tables start) day s) (sym c.in_ok-add_idle.ensures.sums)
    (add_up (book.tables start) day seen.by_merchant added))))
    walk.store c.check_totals.result c.check_totals.ensures.store
