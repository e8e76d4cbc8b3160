-- The figures' names, as a status has them, and behind `acqd_` Prometheus's text format.
use Rattle.std.specs.Prelude.{ℕ, List, codes}
use Rattle.acq_status.specs.declared.figure.Figure.{Figure}
use Rattle.acq_status.specs.declared.figure.Figure.TheVariants.{BookBytes, BusinessDay}
use Rattle.acq_status.specs.declared.figure.Figure.TheVariants.{Connections, Events, Gateways}
use Rattle.acq_status.specs.declared.figure.Figure.TheVariants.{LastEventAge, Limit, Lines}
use Rattle.acq_status.specs.declared.figure.Figure.TheVariants.{LostLines, Merchants}
use Rattle.acq_status.specs.declared.figure.Figure.TheVariants.{OldestPendingAge, OpenPlaces}
use Rattle.acq_status.specs.declared.figure.Figure.TheVariants.{Pending, Places, Ranges}
use Rattle.acq_status.specs.declared.figure.Figure.TheVariants.{RefusedFrames, Replies, RowsMissing}
use Rattle.acq_status.specs.declared.figure.Figure.TheVariants.{ReplySeconds, RequestsToday}
use Rattle.acq_status.specs.declared.figure.Figure.TheVariants.{Terminals, UnansweredLate}
use Rattle.acq_status.specs.declared.figure.Figure.TheVariants.{UnansweredUnserved}
use Rattle.acq_status.specs.declared.figure.Figure.TheVariants.{UnansweredWaiting, WalBytes}

abbrev pub key_of : Figure → List ℕ
key_of BusinessDay = codes "business_day_timestamp_seconds"
key_of Limit = codes "limit"
key_of Merchants = codes "merchants"
key_of Terminals = codes "terminals"
key_of Ranges = codes "ranges"
key_of RequestsToday = codes "requests_today"
key_of Pending = codes "pending"
key_of Places = codes "places"
key_of OpenPlaces = codes "open_places"
key_of Connections = codes "connections_total"
key_of Events = codes "events_total"
key_of Lines = codes "lines_total"
key_of RefusedFrames = codes "refused_frames_total"
key_of UnansweredUnserved = codes "unanswered_unserved_total"
key_of UnansweredWaiting = codes "unanswered_waiting_total"
key_of UnansweredLate = codes "unanswered_late_total"
key_of LostLines = codes "log_lines_lost_total"
key_of Gateways = codes "gateways"
key_of RowsMissing = codes "rows_missing_total"
key_of LastEventAge = codes "last_event_age_seconds"
key_of OldestPendingAge = codes "oldest_pending_age_seconds"
key_of BookBytes = codes "book_bytes"
key_of WalBytes = codes "wal_bytes"
key_of Replies = codes "replies_total"
key_of ReplySeconds = codes "reply_seconds"

abbrev pub help_of : Figure → List ℕ
help_of BusinessDay = codes "When the date of the business day begins."
help_of Limit = codes "Messages of a merchant that a business day admits."
help_of Merchants = codes "Enrolled merchants."
help_of Terminals = codes "Enrolled terminals."
help_of Ranges = codes "Ranges of card numbers."
help_of RequestsToday = codes "Messages of the business day that count against its limits."
help_of Pending = codes "Requests of a business day that wait for their issuer."
help_of Places = codes "Terminals that can be connected at once."
help_of OpenPlaces = codes "Places for terminals that are free."
help_of Connections = codes "Connections of terminals that were taken in."
help_of Events = codes "Messages of terminals that were answered."
help_of Lines = codes "Lines of control connections that were answered."
help_of RefusedFrames = codes "Connections that ended for a frame that was refused."
help_of UnansweredUnserved = codes "Messages of a type that isn't served."
help_of UnansweredWaiting = codes "Repeats of requests that wait for their issuer."
help_of UnansweredLate = codes "Messages reversed before their issuer answered."
help_of LostLines = codes "Lines of the log that were lost."
help_of Gateways = codes "Gateways to issuers that are connected."
help_of RowsMissing = codes "Times that a gateway asked behind more rows than there are."
help_of LastEventAge = codes "Time since a terminal's message was last taken."
help_of OldestPendingAge = codes "Time since the first that waits was first seen."
help_of BookBytes = codes "Bytes of the book's file."
help_of WalBytes = codes "Bytes of its WAL file."
help_of Replies = codes "Replies to terminals, by response code."
help_of ReplySeconds = codes "Time from a message's last byte to its reply's first."

abbrev pub kind_of : Figure → List ℕ
kind_of Connections = codes "counter"
kind_of Events = codes "counter"
kind_of Lines = codes "counter"
kind_of RefusedFrames = codes "counter"
kind_of UnansweredUnserved = codes "counter"
kind_of UnansweredWaiting = codes "counter"
kind_of UnansweredLate = codes "counter"
kind_of LostLines = codes "counter"
kind_of RowsMissing = codes "counter"
kind_of Replies = codes "counter"
kind_of ReplySeconds = codes "histogram"
kind_of other = codes "gauge"
