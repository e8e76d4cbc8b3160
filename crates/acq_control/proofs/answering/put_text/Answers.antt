use Rattle.std.proofs.Common.{◌≡◌, ◌++◌, ◌∙◌, ℕ, List, [], Option, Err, ap, sym}
use Rattle.std.proofs.lemmas.Result.{on_ok_weaker}
use Rattle.acq_faults.specs.Faults.{fault_line, of_report}
use Rattle.acq_link.specs.MemorySink.{sent_of}
use Rattle.acq_reports.specs.Writing.{Reports}
use Rattle.acq_reports.specs.declared.report_fault.ReportFault.{ReportFault}
use Rattle.acq_reports.specs.declared.report_fault.ReportFault.TheVariants as report
use Rattle.acq_control.specs.Answers.{text_unless_refused}
use Rattle.acq_control.specs.Doing.{IsRefusal}
use Rattle.acq_control.proofs.answering.put_text.Goals as goal

-- the line of a fault for which a text is refused
refused_line : (refusal : Option ReportFault) (whole text : List ℕ) (fault : ReportFault)
    → IsRefusal fault → Reports {T = Unit {0}} refusal whole [] text (Err fault)
    → fault_line (of_report fault) ≡ text_unless_refused refusal whole
refused_line refusal whole text report.Memory is h = absurd is
refused_line refusal whole text report.Store is h = absurd is
refused_line refusal whole text (report.Write n) is h = absurd is
refused_line refusal whole text report.NoSuchMerchant is h =
    ap (λ (o : Option ReportFault). text_unless_refused o whole) (sym h.0)
refused_line refusal whole text report.DayNotOver is h =
    ap (λ (o : Option ReportFault). text_unless_refused o whole) (sym h.0)
refused_line refusal whole text (report.StillPending n) is h =
    ap (λ (o : Option ReportFault). text_unless_refused o whole) (sym h.0)

pub returns-in-Err-clause-answers : goal.returns-in-Err-clause-answers
returns-in-Err-clause-answers c = λ refusal whole reports.
    let own = rw c.in-Err.is at reports in
    on_ok_weaker c.put_refusal.result
    (λ said. said.1 ∙ ap (λ (line : List ℕ). sent_of c.args.answer.now ++ line)
    (refused_line refusal whole c.args.text.now c.in-Err.fault said.0 own))
    c.put_refusal.ensures.refuses
