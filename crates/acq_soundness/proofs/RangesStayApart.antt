-- Ranges stay apart, whatever comes.
use Rattle.std.proofs.Common.{refl}
use Rattle.card_no.proofs.OneRangeMore.{ranges_with}
use Rattle.card_no.proofs.OneRangeLess.{ranges_without}
use Rattle.acq_core.specs.declared.arrival.Arrival.{Arrival}
use Rattle.acq_core.specs.Changes.{change_of}
use Rattle.acq_core.specs.Tables.{Tables, new_tables, known_in, after_any, step_tables}
use Rattle.acq_soundness.specs.Ranges.{HasRangesApart, RangesStayApart}
use Rattle.acq_soundness.proofs.StepCases.{by_step}
use Rattle.acq_soundness.proofs.Runs.{kept}

step : (t : Tables) (a : Arrival) → HasRangesApart t → HasRangesApart (step_tables t a)
step t a h =
    by_step t a (λ d. HasRangesApart (after_any t (change_of (known_in t a) d)))
    (record {
      reported = λ o is. h;
      malformed = λ r came. h;
      replied = λ r came given is. h;
      repeated = λ row member. h;
      refused = λ r merchant g given is. h;
      admitted = λ r merchant g range c. h;
      completed = λ r merchant g hold c. h;
      reversed = λ r merchant g row c. h;
      reconciled = λ r merchant g day c. h;
      answered = λ moment v row c. h;
      cut_over = λ came before. h;
      range_added = λ range came valid free. ranges_with t.ranges range h valid free;
      range_dropped = λ low high came. ranges_without t.ranges low high h;
      enrolled = λ merchant came new. h;
      terminal_added = λ terminal came new. h;
    })

pub ranges_stay_apart : RangesStayApart
ranges_stay_apart opening es = kept HasRangesApart step (new_tables opening) es refl
