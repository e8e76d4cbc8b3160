-- The reports that an option's values ask for, as far as the loop over them has come.
use Rattle.std.proofs.Common.{◌≡◌, ℕ, zero, suc, ◌+◌, ◌<◌, List, [], ◌∷◌, ◌++◌, take, length, map}
use Rattle.std.proofs.Common.{slice_index_or}
use Rattle.std.proofs.Common.{sym, ap, ap₂, ◌∙◌, add-one, append_assoc, refl, arith}
use Rattle.std.proofs.lemmas.List.{map-append}
use Rattle.std.proofs.Math.Seq.{take-suc}
use Rattle.std.specs.Borrow.{Bor}
use Rattle.std.specs.Prelude.{Option, Some, None, ok_or, Ok, Err, slice_get}
use Rattle.clap.specs.Words.{Text}
use Rattle.day_totals.specs.Day.{date_text_of}
use Rattle.acq_faults.specs.declared.day_report.DayReport.{DayReport}
use Rattle.acq_faults.specs.declared.report_kind.ReportKind.{ReportKind}
use Rattle.acq_program.specs.Options.{report_on}
use Rattle.acq_program.specs.WantedReports.{each_text}

pub was_none : {T E : Type 0} (o : Option T) (e name : E) → Err name ≡ ok_or o e →
    (name ≡ e) × (o ≡ None)
was_none None e name is = (cc, refl)
was_none (Some x) e name is = absurd cc

pub was_some : {T E : Type 0} (o : Option T) (e : E) (x : T) → Ok x ≡ ok_or o e → o ≡ Some x
was_some None e x is = absurd cc
was_some (Some y) e x is = cc

-- the text at a place
pub text_at : (texts : List (Bor Text)) (i : ℕ) (other : Bor Text) → i < length texts →
    slice_get (each_text texts) i ≡ Some (slice_index_or texts i other).now
text_at [] i other within = absurd (omega (arith, within))
text_at (x ∷ texts) zero other within = refl
text_at (x ∷ texts) (suc i) other within = text_at texts i other (omega (arith, within))

module _ (kind : ReportKind) (texts : List (Bor Text)) (i : ℕ) (other : Bor Text)
    (within : i < length texts)
    (days : List ℕ) (day : ℕ) where
  pub texts_next : each_text (take i texts) ≡ map date_text_of days →
      (slice_index_or texts i other).now ≡ date_text_of day
      → each_text (take (i + 1) texts) ≡ map date_text_of (days ++ day ∷ [])
  texts_next before this =
      ap each_text (ap (λ n. take n texts) (add-one i) ∙ take-suc texts i other within)
      ∙ (map-append (λ (t : Bor Text). t.now) (take i texts) (slice_index_or texts i other ∷ [])
      ∙ (ap₂ (λ (x : List Text) (t : Text). x ++ t ∷ []) before this
      ∙ sym (map-append date_text_of days (day ∷ []))))

  pub reports_next : (old now after : List DayReport) → now ≡ old ++ map (report_on kind) days
      → after ≡ now ++ report_on kind day ∷ []
      → after ≡ old ++ map (report_on kind) (days ++ day ∷ [])
  reports_next old now after before this =
      this
      ∙ (ap (λ x. x ++ report_on kind day ∷ []) before
      ∙ (append_assoc old (map (report_on kind) days) (report_on kind day ∷ [])
      ∙ ap (λ x. old ++ x) (sym (map-append (report_on kind) days (day ∷ [])))))
