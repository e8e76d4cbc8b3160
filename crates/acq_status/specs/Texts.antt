-- A status, as lines of a key and a value, and in Prometheus's text format (own profile;
-- Prometheus, exposition formats, text-based format).
use Rattle.std.specs.Prelude.{ℕ, ◌+◌, ◌*◌, List, [], ◌∷◌, ◌++◌, codes}
use Rattle.std.specs.Prelude.{Option, Some, None, flat_map}
use Rattle.day_totals.specs.Day.{date_text_of}
use Rattle.acq_status.specs.Figures.{Figures}
use Rattle.acq_status.specs.Names.{help_of, key_of, kind_of}
use Rattle.acq_status.specs.Replies.{duration_samples, reply_lines, value_text}
use Rattle.acq_status.specs.declared.figure.Figure.{Figure}
use Rattle.acq_status.specs.declared.figure.Figure.TheVariants as figure
use Rattle.acq_status.specs.declared.pending_day.PendingDay.{PendingDay}
use Rattle.acq_status.specs.declared.reading.Reading.{Reading}
use Rattle.acq_status.specs.declared.serving.Serving.{Serving}
use Rattle.acq_status.specs.declared.status_form.StatusForm.{StatusForm}
use Rattle.acq_status.specs.declared.status_form.StatusForm.TheVariants.{Lines, Metrics}
use Rattle.acq_status.specs.declared.unanswered_counts.UnansweredCounts.{UnansweredCounts}

-- ---- the figures, each with its value

abbrev pub reading : Figure → ℕ → Reading
reading figure value = record { figure = figure; value = value }

-- a figure that isn't always known
abbrev pub known_reading : Figure → Option ℕ → List Reading
known_reading figure None = []
known_reading figure (Some value) = reading figure value ∷ []

-- what was taken in
abbrev pub taken_readings : Serving → List Reading
taken_readings s =
    reading figure.Places s.places ∷ reading figure.OpenPlaces s.open_places
    ∷ reading figure.Connections s.connections ∷ reading figure.Events s.events
    ∷ reading figure.Lines s.lines ∷ reading figure.RefusedFrames s.refused_frames ∷ []

-- what got no reply, by why, and no line of the log
abbrev pub missing_readings : UnansweredCounts → ℕ → List Reading
missing_readings c lost_lines =
    reading figure.UnansweredUnserved c.unserved ∷ reading figure.UnansweredWaiting c.waiting
    ∷ reading figure.UnansweredLate c.late ∷ reading figure.LostLines lost_lines ∷ []

-- of gateways, ages, and how much the book's files hold
abbrev pub known_readings : Serving → List Reading
known_readings s =
    known_reading figure.Gateways s.gateways ++ known_reading figure.RowsMissing s.rows_missing
    ++ known_reading figure.LastEventAge s.last_event_age
    ++ known_reading figure.OldestPendingAge s.oldest_pending_age
    ++ known_reading figure.BookBytes s.book_bytes ++ known_reading figure.WalBytes s.wal_bytes

abbrev pub serving_readings : Option Serving → List Reading
serving_readings None = []
serving_readings (Some s) =
    taken_readings s ++ missing_readings s.unanswered s.lost_lines ++ known_readings s

abbrev pub book_readings : Figures → List Reading
book_readings f =
    reading figure.Limit f.limit ∷ reading figure.Merchants f.merchants
    ∷ reading figure.Terminals f.terminals ∷ reading figure.Ranges f.ranges
    ∷ reading figure.RequestsToday f.requests_today ∷ []

-- ---- days

-- 2000-01-01, in days since 1970-01-01
abbrev pub first_day : ℕ
first_day = 10_957

-- when a day's date begins, in seconds since 1970-01-01 00:00:00
abbrev pub begin_of : ℕ → ℕ
begin_of day = (day + first_day) * 86400

-- ---- the texts

abbrev pub readings_of : Figures → Option Serving → List Reading
readings_of f serving = book_readings f ++ serving_readings serving

-- the program's version
abbrev pub version : List ℕ
version = codes "0.2.0"

abbrev pub version_line : List ℕ
version_line = codes "version " ++ version ++ codes "\n"

abbrev pub status_line : Reading → List ℕ
status_line r = key_of r.figure ++ codes " " ++ value_text r.value

-- a day between two texts
abbrev pub dated : List ℕ → ℕ → List ℕ → List ℕ
dated before day behind = before ++ date_text_of day ++ behind

unfoldable pub pending_line : PendingDay → List ℕ
pending_line p = dated (codes "pending.") p.day (codes " ") ++ value_text p.requests

-- in a status, the replies of a host that serves
abbrev pub status_replies : Option Serving → List ℕ
status_replies None = []
status_replies (Some s) = reply_lines (codes "replies_total.") (codes " ") s.replies

-- a status: its version, the business day, the figures, the replies of each response code, and what
-- is pending of each day
abbrev pub status_of : Figures → Option Serving → List ℕ
status_of f serving =
    version_line ++ dated (codes "day ") f.day (codes "\n")
    ++ flat_map status_line (readings_of f serving) ++ status_replies serving
    ++ flat_map pending_line f.pending

-- a line about a figure
abbrev pub about_line : List ℕ → Figure → List ℕ → List ℕ
about_line before figure said = before ++ key_of figure ++ codes " " ++ said ++ codes "\n"

-- what stands before a figure's values
abbrev pub about : Figure → List ℕ
about figure =
    about_line (codes "# HELP acqd_") figure (help_of figure)
    ++ about_line (codes "# TYPE acqd_") figure (kind_of figure)

unfoldable pub metric : Reading → List ℕ
metric r = about r.figure ++ codes "acqd_" ++ status_line r

unfoldable pub pending_sample : PendingDay → List ℕ
pending_sample p =
    dated (codes "acqd_pending{day=\"") p.day (codes "\"} ") ++ value_text p.requests

abbrev pub version_metric : List ℕ
version_metric =
    codes "# HELP acqd_info The program's version.\n# TYPE acqd_info gauge\n"
    ++ codes "acqd_info{version=\"" ++ version ++ codes "\"} 1\n"

-- its replies as metrics, and how long they took
abbrev pub reply_metrics : Option Serving → List ℕ
reply_metrics None = []
reply_metrics (Some s) =
    about figure.Replies
    ++ reply_lines (codes "acqd_replies_total{code=\"") (codes "\"} ") s.replies
    ++ about figure.ReplySeconds ++ duration_samples s.durations

-- the same figures as metrics
abbrev pub metrics_of : Figures → Option Serving → List ℕ
metrics_of f serving =
    version_metric ++ metric (reading figure.BusinessDay (begin_of f.day))
    ++ flat_map metric (readings_of f serving) ++ reply_metrics serving
    ++ about figure.Pending ++ flat_map pending_sample f.pending

abbrev pub text_in : StatusForm → Figures → Option Serving → List ℕ
text_in Lines = status_of
text_in Metrics = metrics_of
