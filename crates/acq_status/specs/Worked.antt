-- Tables that the worked texts are computed on: those of the worked reports, and a request that
-- waits, sent on 2024-05-01 at 09:30:00.
use Rattle.std.specs.Prelude.{[], ◌∷◌, Some, replicate, set}
use Rattle.acq_core.specs.declared.request.Request.{Request}
use Rattle.acq_core.specs.declared.status.Status.TheVariants.{Pending}
use Rattle.acq_core.specs.Tables.{Tables}
use Rattle.acq_reports.specs.Worked.{worked_hold, worked_tables}
use Rattle.acq_status.specs.declared.reply_counts.ReplyCounts.{ReplyCounts}
use Rattle.acq_status.specs.declared.reply_durations.ReplyDurations.{ReplyDurations}
use Rattle.acq_status.specs.declared.serving.Serving.{Serving}

abbrev pub worked_waiting : Request
worked_waiting = record (worked_hold 3) { status = Pending }

abbrev pub waiting_tables : Tables
waiting_tables = record worked_tables { requests = worked_waiting ∷ worked_tables.requests }

-- 112 approvals, four times 14, once 91, and three times a code that is none of two digits
abbrev pub worked_replies : ReplyCounts
worked_replies =
    record {
      by_code = set (set (set (replicate 100 0) 0 112) 14 4) 91 1;
      other = 3;
    }

-- of 120 replies one took more than five seconds
abbrev pub worked_durations : ReplyDurations
worked_durations =
    record {
      within = 80 ∷ 101 ∷ 110 ∷ 115 ∷ 117 ∷ 118 ∷ 118 ∷ 118 ∷ 118 ∷ 119 ∷ [];
      replies = 120;
      microseconds = 6050042;
    }

abbrev pub worked_serving : Serving
worked_serving =
    record {
      places = 64;
      open_places = 61;
      connections = 7;
      events = 120;
      lines = 9;
      refused_frames = 1;
      unanswered = record { unserved = 3; waiting = 2; late = 0 };
      replies = worked_replies;
      durations = worked_durations;
      lost_lines = 5;
      gateways = Some 1;
      rows_missing = Some 0;
      last_event_age = Some 2;
      oldest_pending_age = Some 60;
      book_bytes = Some 98304;
      wal_bytes = Some 0;
    }
