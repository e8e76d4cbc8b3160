-- Replies (RFC 9110, RFC 9112): a head, and behind it a body of the length that the head says.
use Rattle.std.specs.Prelude.{ℕ, List, [], ◌∷◌, ◌++◌, codes, Option, Some, None}
use Rattle.std.specs.Fmt.{decimal}
use Rattle.httpdate.specs.Date.{date_text}
use Rattle.httpdate.specs.declared.date.HttpDate.{HttpDate}
use Rattle.acq_page.specs.declared.content_kind.ContentKind.{ContentKind}
use Rattle.acq_page.specs.declared.content_kind.ContentKind.TheVariants.{Html, Metrics}
use Rattle.acq_page.specs.declared.status.Status.{Status}
use Rattle.acq_page.specs.declared.status.Status.TheVariants.{Done, BadHead, NotFound, OtherMethod}
use Rattle.acq_page.specs.declared.status.Status.TheVariants.{OtherHost, HeadTooLong, NoHost}

abbrev pub reason_of : Status → List ℕ
reason_of Done = codes "200 OK"
reason_of BadHead = codes "400 Bad Request"
reason_of NotFound = codes "404 Not Found"
reason_of OtherMethod = codes "405 Method Not Allowed"
reason_of OtherHost = codes "421 Misdirected Request"
reason_of HeadTooLong = codes "431 Request Header Fields Too Large"
reason_of NoHost = codes "503 Service Unavailable"

abbrev pub media_of : ContentKind → List ℕ
media_of Html = codes "text/html; charset=utf-8"
media_of Metrics = codes "text/plain; version=0.0.4; charset=utf-8"

-- CR and LF
abbrev pub line_end : List ℕ
line_end = 13 ∷ 10 ∷ []

-- a name with what stands behind it, and a value, which ends the line
abbrev pub field : List ℕ → List ℕ → List ℕ
field name value = name ++ value ++ line_end

-- when it was made, if that is known
abbrev pub date_field : Option HttpDate → List ℕ
date_field None = []
date_field (Some date) = field (codes "Date: ") (date_text date)

-- what its body is, and how many bytes it has
abbrev pub content_fields : ContentKind → ℕ → List ℕ
content_fields kind length =
    field (codes "Content-Type: ") (media_of kind)
    ++ field (codes "Content-Length: ") (decimal length)

-- which methods are taken, where another one came
abbrev pub allow_field : Status → List ℕ
allow_field OtherMethod = field (codes "Allow: ") (codes "GET, HEAD")
allow_field other = []

-- it is shown with the style that stands in it, and loads, sends and frames nothing
abbrev pub policy : List ℕ
policy =
    codes "default-src 'none'; style-src 'unsafe-inline'; base-uri 'none'; "
    ++ codes "form-action 'none'; frame-ancestors 'none'"

abbrev pub policy_fields : List ℕ
policy_fields =
    field (codes "Cache-Control: ") (codes "no-store")
    ++ field (codes "Content-Security-Policy: ") policy
    ++ field (codes "X-Content-Type-Options: ") (codes "nosniff")
    ++ field (codes "Referrer-Policy: ") (codes "no-referrer")

-- the head of a reply with a body of this length, behind which the connection ends
abbrev pub head_of : Status → ContentKind → ℕ → Option HttpDate → List ℕ
head_of status kind length date =
    field (codes "HTTP/1.1 ") (reason_of status) ++ date_field date
    ++ content_fields kind length ++ allow_field status ++ policy_fields
    ++ field (codes "Connection: ") (codes "close") ++ line_end
