use Rattle.std.proofs.Common.{◌≡◌, ◌++◌, ◌∙◌, ℕ, List, None, append-nil}
use Rattle.acq_core.specs.Tables.{Tables}
use Rattle.acq_control.specs.Unmade.{Puts}
use Rattle.acq_control.proofs.answering.put_question.Goals as goal
use Rattle.acq_control.proofs.answering.put_question.Goals.{}
use Rattle.acq_control.proofs.answering.put_question.Goals.{in-ReportCsv+in_ok-put_report_csv-in-ReportCsv}
use Rattle.acq_control.proofs.answering.put_question.Goals.{in-Sums+in_ok-put_asked-in-Sums}
use Rattle.acq_control.proofs.answering.put_question.Goals.{in-Event+in_ok-put_event-in-Event}
use Rattle.acq_control.proofs.answering.put_question.Goals.{in-Find+in_ok-put_found-in-Find}
use Rattle.acq_control.proofs.answering.put_question.Goals.{in-Statement+in_ok-put_statement-in-Statement}
use Rattle.acq_control.proofs.answering.put_question.Goals.{in-Holds+in_ok-put_holds-in-Holds}
use Rattle.acq_control.proofs.answering.put_question.Goals.{in-Pending+in_ok-put_pending-in-Pending}
use Rattle.acq_control.proofs.answering.put_question.Goals.{in-Explain+in_ok-put_asked-in-Explain}
use Rattle.acq_control.proofs.answering.put_question.Goals.{in-List+in_ok-put_asked-in-List}
use Rattle.acq_control.proofs.answering.put_question.Goals.{in-Status+in_ok-put_asked-in-Status}
use Rattle.acq_control.proofs.answering.put_question.Goals.{in-End+in_ok-put_end-in-End}
use Rattle.acq_control.proofs.answering.put_question.Goals.{in-Reopen+in_ok-put-in-Reopen}
use Rattle.acq_control.proofs.answering.put_question.Goals.{in-Stop+in_ok-put-in-Stop}

-- all of it was put
all_put : (now : Tables) (old new text : List ℕ) → new ≡ old ++ text → Puts now old new text None
all_put now old new text is = record { whole = append-nil new ∙ is; may = tt }

pub returns-clause-answers : goal.returns-clause-answers
returns-clause-answers g c = λ number h o may. elim c.match-question.branch [
  | in-ReportCsv+in_ok-put_report_csv-in-ReportCsv w ↦
      rw (w.host-is, w.answer-is, w.in-ReportCsv.is)
      (all_put _ _ _ _
      (w.in_ok-put_report_csv-in-ReportCsv.ensures.answers (rw (w.host-is) at h) o))
  | in-Sums+in_ok-put_asked-in-Sums w ↦
      rw (w.host-is, w.answer-is, w.in-Sums.is)
      (all_put _ _ _ _
      (w.in_ok-put_asked-in-Sums.ensures.answers (rw (w.host-is) at h) o))
  | in-Event+in_ok-put_event-in-Event w ↦
      rw (w.host-is, w.answer-is, w.in-Event.is)
      (all_put _ _ _ _
      (w.in_ok-put_event-in-Event.ensures.answers (rw (w.host-is) at h) o))
  | in-Find+in_ok-put_found-in-Find w ↦
      rw (w.host-is, w.answer-is, w.in-Find.is)
      (all_put _ _ _ _
      (w.in_ok-put_found-in-Find.ensures.answers (rw (w.host-is) at h) o may))
  | in-Statement+in_ok-put_statement-in-Statement w ↦
      rw (w.host-is, w.answer-is, w.in-Statement.is)
      (all_put _ _ _ _
      (w.in_ok-put_statement-in-Statement.ensures.answers (rw (w.host-is) at h) o may))
  | in-Holds+in_ok-put_holds-in-Holds w ↦
      rw (w.host-is, w.answer-is, w.in-Holds.is)
      (all_put _ _ _ _
      (w.in_ok-put_holds-in-Holds.ensures.answers (rw (w.host-is) at h) o))
  | in-Pending+in_ok-put_pending-in-Pending w ↦
      rw (w.host-is, w.answer-is, w.in-Pending.is)
      (all_put _ _ _ _
      (w.in_ok-put_pending-in-Pending.ensures.answers (rw (w.host-is) at h) o))
  | in-Explain+in_ok-put_asked-in-Explain w ↦
      rw (w.host-is, w.answer-is, w.in-Explain.is)
      (all_put _ _ _ _
      (w.in_ok-put_asked-in-Explain.ensures.answers (rw (w.host-is) at h) o))
  | in-List+in_ok-put_asked-in-List w ↦
      rw (w.host-is, w.answer-is, w.in-List.is)
      (all_put _ _ _ _
      (w.in_ok-put_asked-in-List.ensures.answers (rw (w.host-is) at h) o))
  | in-Status+in_ok-put_asked-in-Status w ↦
      rw (w.host-is, w.answer-is, w.in-Status.is)
      (all_put _ _ _ _
      (w.in_ok-put_asked-in-Status.ensures.answers (rw (w.host-is) at h) o))
  | in-End+in_ok-put_end-in-End w ↦
      rw (w.host-is, w.answer-is, w.in-End.is)
      (all_put _ _ _ _
      (w.in_ok-put_end-in-End.ensures.answers (rw (w.host-is) at h) o))
  | in-Reopen+in_ok-put-in-Reopen w ↦
      rw (w.host-is, w.answer-is, w.in-Reopen.is)
      (all_put _ _ _ _
      (w.in_ok-put-in-Reopen.ensures.answers))
  | in-Stop+in_ok-put-in-Stop w ↦
      rw (w.host-is, w.answer-is, w.in-Stop.is)
      (all_put _ _ _ _
      (w.in_ok-put-in-Stop.ensures.answers))
]
