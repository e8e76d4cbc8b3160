-- Reports, as far as the loop over them has come.
use Rattle.std.proofs.Common.{◌≡◌, ℕ, zero, suc, ◌+◌, ◌<◌, List, [], ◌∷◌, ◌++◌, take, drop, length}
use Rattle.std.proofs.Common.{slice_index_or}
use Rattle.std.proofs.Common.{sym, ap, ◌∙◌, subst, add-one, append_assoc, append-nil, arith}
use Rattle.std.proofs.lemmas.List.{take-append-drop}
use Rattle.std.proofs.lemmas.List.Elements.{All-append}
use Rattle.std.proofs.lemmas.Grind.{flat_map-append}
use Rattle.std.proofs.Math.Seq.{take-suc}
use Rattle.std.specs.Prelude.{Err, None}
use Rattle.acq_core.specs.Tables.{Tables}
use Rattle.acq_reports.specs.Refusals.{day_refusal}
use Rattle.acq_reports.specs.Writing.{Reports}
use Rattle.acq_reports.specs.declared.report_fault.ReportFault.{ReportFault}
use Rattle.acq_faults.specs.declared.day_report.DayReport.{DayReport}
use Rattle.acq_faults.specs.DayReport.{report_text}
use Rattle.acq_commands.specs.DayReports.{AreGiven, StopsReports, report_texts}

module _ (t : Tables) (reports : List DayReport) (i : ℕ) (r : DayReport)
    (within : i < length reports)
    (is : r ≡ slice_index_or reports i r) where
  next_done : take (i + 1) reports ≡ take i reports ++ r ∷ []
  next_done = rw (add-one, take-suc reports i r within)
      (ap (λ x. take i reports ++ x ∷ []) (sym is))

  next_texts : report_texts t (take (i + 1) reports) ≡ report_texts t (take i reports)
      ++ report_text t r
  next_texts =
      ap (report_texts t) next_done
      ∙ (flat_map-append (report_text t) (take i reports) (r ∷ [])
      ∙ ap (λ x. report_texts t (take i reports) ++ x) (append-nil (report_text t r)))

  alone : day_refusal t r.day ≡ None → AreGiven t (r ∷ [])
  alone h zero d within = h
  alone h (suc k) d within = absurd (omega (arith, within))

  pub given_next : AreGiven t (take i reports) → day_refusal t r.day ≡ None →
      AreGiven t (take (i + 1) reports)
  given_next before this =
      subst (AreGiven t) (sym next_done)
      (All-append (λ report. day_refusal t report.day ≡ None) (take i reports) (r ∷ []) before
      (alone this))

  pub sent_next : (sent between after : List ℕ) → between ≡ sent ++ report_texts t (take i reports)
      → after ≡ between ++ report_text t r → after ≡ sent ++ report_texts t (take (i + 1) reports)
  sent_next sent between after first second =
      second
      ∙ (ap (λ x. x ++ report_text t r) first
      ∙ (append_assoc sent (report_texts t (take i reports)) (report_text t r)
      ∙ ap (λ x. sent ++ x) (sym next_texts)))

  pub stops_here : (sent between after : List ℕ) (cause : ReportFault) → AreGiven t (take i reports)
      → between ≡ sent ++ report_texts t (take i reports)
      → Reports {T = Unit {0}} (day_refusal t r.day) (report_text t r) between after (Err cause)
      → StopsReports t reports sent after cause
  stops_here sent between after cause before first stopped = record {
    done = take i reports;
    in_hand = r;
    left = drop (i + 1) reports;
    whole =
        sym (take-append-drop (i + 1) reports)
        ∙ (ap (λ x. x ++ drop (i + 1) reports) next_done
        ∙ append_assoc (take i reports) (r ∷ []) (drop (i + 1) reports));
    given = before;
    stopped =
        subst (λ x. Reports {T = Unit {0}} (day_refusal t r.day) (report_text t r) x after
        (Err cause)) first stopped;
  }
