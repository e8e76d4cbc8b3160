-- What clearing once gave of a day, it gives again.
use Rattle.std.proofs.Common.{◌≡◌, ℕ, ◌+◌, ◌<◌, List, [], ◌∷◌, ◌++◌, Bool, true, false, cond, refl}
use Rattle.std.proofs.Common.{sym, ap, subst, ◌∙◌, arith}
use Rattle.std.specs.Prelude.{◌&&◌, ◌||◌, ◌==◌, nat_lt, Some, None, flat_map}
use Rattle.std.specs.List.{list_any}
use Rattle.std.proofs.lemmas.Bool.Decides.{nat_tests}
use Rattle.acq_core.specs.declared.event.Event.{Event}
use Rattle.acq_core.specs.Tables.{Tables, count, is_pending, tables_after}
use Rattle.acq_history.specs.DaySums.{postings_on}
use Rattle.acq_history.specs.Finality.{has_pending}
use Rattle.acq_history.proofs.FinalDays.{closed_day_stays, postings_of_closed_day}
use Rattle.acq_book.specs.Lookups.{is_posting_before, pending_at}
use Rattle.acq_book.specs.Order.{in_order}
use Rattle.acq_soundness.proofs.BooksAreSound.{books_are_sound}
use Rattle.acq_reports.specs.declared.report_fault.ReportFault.TheVariants.{DayNotOver}
use Rattle.acq_reports.specs.declared.report_fault.ReportFault.TheVariants.{StillPending}
use Rattle.acq_reports.specs.Refusals.{day_refusal, pending_refusal}
use Rattle.acq_clearing.specs.ClearedSums.{HasAmounts, cleared_totals}
use Rattle.acq_clearing.specs.ClearingFile.{clearing_header, clearing_text, posting_line}
use Rattle.acq_clearing.proofs.Cleared.{clears}
use Rattle.acq_closed_days.proofs.Closed.{given_again, same_postings}
use Rattle.acq_headline.specs.Clearing.{GivesAgain, KeptItsClearing}
use Rattle.acq_core.specs.Pasts.{HasPast}

-- ---- the sums

-- amounts of a book are amounts
has_amounts : (t : Tables) → HasPast t → HasAmounts t
has_amounts t past =
    λ k d within. ((books_are_sound past.0 t past.1).rows.postings k d within).amount

-- ---- after a run

gives_again : (t : Tables) (further : List Event) (day : ℕ) → HasPast t →
    HasPast (tables_after t further) →
    day_refusal t day ≡ None → GivesAgain t (tables_after t further) day
gives_again t further day past then refused =
    let now = tables_after t further in
    let same : clearing_text now day ≡ clearing_text t day =
    ap (λ rows. clearing_header ++ flat_map posting_line rows)
    (same_postings t further day refused) in
    record {
      given = given_again t further day refused;
      same_text = same;
      same_totals = λ m.
          sym (clears now day m (has_amounts now then)).sums
          ∙ (ap (cleared_totals m) same ∙ (clears t day m (has_amounts t past)).sums);
    }

pub keeps_clearing : (t now : Tables) (further : List Event) → HasPast t → HasPast now →
    now ≡ tables_after t further →
    KeptItsClearing t now
keeps_clearing t now further past then after = record {
  final = λ day refused.
      subst (λ u. GivesAgain t u day) (sym after)
      (gives_again t further day past (subst HasPast after then) refused);
  sums = λ day m. clears now day m (has_amounts now then);
}
