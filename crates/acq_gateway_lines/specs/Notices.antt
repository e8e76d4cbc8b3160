-- What a gateway to issuers is told of a row of the book (own profile).
use Rattle.std.specs.Prelude.{◌&&◌, Bool, true, false, Option, Some, None, if◌then◌else◌, codes}
use Rattle.std.specs.Str.{bytes_eq}
use Rattle.acq_message.specs.declared.service.Service.{Service}
use Rattle.acq_message.specs.declared.service.Service.TheVariants.{Authorization, Completion}
use Rattle.acq_message.specs.declared.service.Service.TheVariants.{Financial, Reversal}
use Rattle.acq_message.specs.declared.service.Service.TheVariants.{ReversalAdvice}
use Rattle.acq_message.specs.Elements.{text_at}
use Rattle.acq_core.specs.declared.request.Request.{Request}
use Rattle.acq_core.specs.declared.status.Status.{Status}
use Rattle.acq_core.specs.declared.status.Status.TheVariants as status
use Rattle.acq_gateway_lines.specs.declared.notice.Notice.{Notice}
use Rattle.acq_gateway_lines.specs.declared.notice.Notice.TheVariants as notice

-- its issuer declined, or gave no answer in time
abbrev pub is_declined : Status → Bool
is_declined status.Declined = true
is_declined other = false

-- it was ended without an answer: its reply has code 91
abbrev pub timeout_in : Request → Option Notice
timeout_in row =
    if is_declined row.status && bytes_eq (text_at row.reply 39) (codes "91")
    then Some notice.Timeout
    else None

-- what is told of a row that was admitted or accepted, and doesn't wait
abbrev pub notice_by : Service → Request → Option Notice
notice_by Authorization row = timeout_in row
notice_by Financial row = timeout_in row
notice_by Completion row = Some notice.Completion
notice_by Reversal row = Some notice.Reversal
notice_by ReversalAdvice row = Some notice.Reversal
notice_by service row = None

-- by its status: of what waits a query, and of what was refused nothing
abbrev pub notice_under : Status → Request → Option Notice
notice_under status.Pending row = Some notice.Query
notice_under status.Refused row = None
notice_under status.Reconciled row = None
notice_under status row = notice_by row.key.service row

-- what is told of a row, if anything is
abbrev pub notice_of : Request → Option Notice
notice_of row = notice_under row.status row
