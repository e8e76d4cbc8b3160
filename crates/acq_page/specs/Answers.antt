-- What is replied to a request, by what the host said of itself.
use Rattle.std.specs.Prelude.{◌≡◌, ◌++◌, ℕ, List, [], length, Option, is_some}
use Rattle.std.specs.Prelude.{MatchOption, if◌then◌else◌}
use Rattle.httpdate.specs.declared.date.HttpDate.{HttpDate}
use Rattle.acq_page.specs.Pages.{page_of}
use Rattle.acq_page.specs.Replies.{head_of}
use Rattle.acq_page.specs.declared.asked.Asked.{Asked}
use Rattle.acq_page.specs.declared.asked.Asked.TheVariants as asked
use Rattle.acq_page.specs.declared.content_kind.ContentKind.{ContentKind}
use Rattle.acq_page.specs.declared.content_kind.ContentKind.TheVariants as kind
use Rattle.acq_page.specs.declared.host_said.HostSaid.{HostSaid}
use Rattle.acq_page.specs.declared.piece.Piece.{Piece}
use Rattle.acq_page.specs.declared.request.Request.{Request}
use Rattle.acq_page.specs.declared.status.Status.{Status}
use Rattle.acq_page.specs.declared.status.Status.TheVariants as status

-- what was asked is there if the host said it
abbrev pub status_of : Asked → HostSaid → Status
status_of asked.Page said = if is_some said.status then status.Done else status.NoHost
status_of asked.Metrics said = if is_some said.metrics then status.Done else status.NoHost
status_of asked.Missing said = status.NotFound
status_of asked.OtherMethod said = status.OtherMethod
status_of asked.OtherHost said = status.OtherHost
status_of asked.Bad said = status.BadHead
status_of asked.TooLong said = status.HeadTooLong

-- HTML, but for metrics that the host said
abbrev pub kind_of : Asked → HostSaid → ContentKind
kind_of asked.Metrics said = if is_some said.metrics then kind.Metrics else kind.Html
kind_of other said = kind.Html

-- a page, in which each text stands escaped
abbrev pub IsPage : List ℕ → Type 0
IsPage body = (pieces : List Piece) × (body ≡ page_of pieces)

-- metrics are the host's own, byte for byte; all else is a page
abbrev pub IsBody : Asked → HostSaid → List ℕ → Type 0
IsBody asked.Metrics said body =
    MatchOption said.metrics (IsPage body) (λ metrics. body ≡ metrics.items)
IsBody other said body = IsPage body

-- a head, and behind it, unless it was asked for without, the body that the head tells of
abbrev pub IsReplyTo : Request → HostSaid → Option HttpDate → List ℕ → Type 0
IsReplyTo request said date reply =
    (body : List ℕ) × IsBody request.asked said body
    × (reply ≡ head_of (status_of request.asked said) (kind_of request.asked said)
    (length body) date ++ (if request.with_body then body else []))
