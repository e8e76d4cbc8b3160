-- What a merchant's figures of a day that is over come to.
use Rattle.std.proofs.Common.{◌≡◌, ℕ, List, [], sym, ap, ◌∙◌}
use Rattle.std.specs.Prelude.{None, map}
use Rattle.day_totals.specs.Totals.{totals_of}
use Rattle.acq_core.specs.declared.event.Event.{Event}
use Rattle.acq_core.specs.Tables.{Tables, postings_of, tables_after}
use Rattle.acq_history.proofs.BalanceOfReconciliation.{sums_are_totals}
use Rattle.acq_history.proofs.FinalDays.{postings_of_closed_day}
use Rattle.acq_book.specs.Lookups.{totals_at}
use Rattle.acq_reports.specs.Refusals.{day_refusal}
use Rattle.acq_closed_days.proofs.Closed.{is_given}

-- a merchant's totals of a day that is given are those that it had
pub same_totals : (t : Tables) (further : List Event) (day : ℕ) (m : List ℕ) →
    day_refusal t day ≡ None → totals_at (tables_after t further) m day ≡ totals_at t m day
same_totals t further day m refused =
    let given = is_given t day refused in
    sym (sums_are_totals (tables_after t further).postings m day)
    ∙ ap (λ rows. totals_of (map (λ row. (row.1.leg, row.1.amount)) (postings_of m rows)))
    (postings_of_closed_day t day [] further given.over given.none)
    ∙ sums_are_totals t.postings m day
