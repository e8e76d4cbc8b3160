-- The lines of a request (own profile): what it was, its reply, and where it stands.
use Rattle.std.specs.Prelude.{ℕ, List, [], ◌++◌, codes, Option, Some, None}
use Rattle.std.specs.Prelude.{if◌then◌else◌}
use Rattle.std.specs.Fmt.{decimal}
use Rattle.std.specs.Str.{bytes_eq}
use Rattle.day_totals.specs.Day.{date_text_of}
use Rattle.day_totals.specs.Digits.{zero_padded}
use Rattle.iso_codec.specs.Message.{IsoMessage, content_of}
use Rattle.acq_message.specs.declared.service.Service.{Service}
use Rattle.acq_message.specs.declared.service.Service.TheVariants.{Authorization, Financial}
use Rattle.acq_message.specs.declared.service.Service.TheVariants.{Completion, Reversal}
use Rattle.acq_message.specs.declared.service.Service.TheVariants.{ReversalAdvice, Reconciliation}
use Rattle.acq_message.specs.declared.service.Service.TheVariants.{NetworkManagement}
use Rattle.acq_message.specs.Elements.{amount_in, or_empty, text_at, transaction_in}
use Rattle.acq_core.specs.declared.request.Request.{Request}
use Rattle.acq_core.specs.declared.status.Status.{Status}
use Rattle.acq_core.specs.declared.status.Status.TheVariants.{Pending, Approved, Completed}
use Rattle.acq_core.specs.declared.status.Status.TheVariants.{Reversed, ReversedPending, Lowered}
use Rattle.acq_show.specs.Contents.{content_shown}
use Rattle.acq_show.specs.Names.{is_empty}
use Rattle.acq_reports.specs.Marks.{end_text}

-- the business day, the terminal and the trace number, each before a space
unfoldable pub start_of : Request → List ℕ
start_of row =
    date_text_of row.day ++ codes " " ++ row.key.terminal ++ codes " " ++ row.key.trace
    ++ codes " "

-- a line about a request
abbrev pub line_about : Request → List ℕ → List ℕ
line_about row words = start_of row ++ words ++ codes "\n"

-- ---- what it was

-- a sale or a return, by its transaction
abbrev pub financial_words : List ℕ → List ℕ
financial_words transaction =
    if bytes_eq transaction (codes "00") then codes "sale"
    else if bytes_eq transaction (codes "20") then codes "return"
    else codes "financial request"

-- what was asked for: a message of some kind, by the reply, which repeats its elements 3 and 4
abbrev pub service_words : Service → IsoMessage → List ℕ
service_words Authorization reply = codes "authorization"
service_words Financial reply = financial_words (transaction_in reply)
service_words Completion reply = codes "completion"
service_words Reversal reply = codes "reversal"
service_words ReversalAdvice reply = codes "reversal advice"
service_words Reconciliation reply = codes "reconciliation"
service_words NetworkManagement reply = codes "network management"

-- the amount that was asked for, which the row of a lowered hold has no more
abbrev pub asked_amount : Service → IsoMessage → List ℕ
asked_amount Reconciliation reply = []
asked_amount NetworkManagement reply = []
asked_amount service reply = codes " of " ++ decimal (amount_in reply)

-- a reference behind such words, where it is there
abbrev pub reference_words : List ℕ → Option ℕ → List ℕ
reference_words before None = []
reference_words before (Some n) = before ++ zero_padded 12 n

-- the card, masked, where it is there
abbrev pub card_words : List ℕ → List ℕ
card_words card = if is_empty card then [] else codes ", card " ++ content_shown 2 card

-- what it was, with its references and its card
abbrev pub asked_words : Request → List ℕ
asked_words row =
    service_words row.key.service row.reply ++ asked_amount row.key.service row.reply
    ++ reference_words (codes ", reference ") row.reference
    ++ reference_words (codes ", of ") row.follows ++ card_words (or_empty row.card)

-- ---- its reply

-- the authorization id, element 38, where it is there
abbrev pub id_words : Option (List ℕ) → List ℕ
id_words None = []
id_words (Some id) = codes ", authorization id " ++ content_shown 38 id

-- the response code, element 39, and what it means, or that there is none
abbrev pub reply_words : Status → IsoMessage → List ℕ
reply_words Pending reply = codes "waits for its issuer"
reply_words ReversedPending reply = codes "reversed before its issuer answered"
reply_words status reply =
    codes "reply " ++ content_shown 39 (text_at reply 39)
    ++ id_words (content_of reply.elements 38)

-- ---- where it stands

-- the last second of a hold
abbrev pub held_words : ℕ → List ℕ
held_words end = codes "held until " ++ end_text end

-- the line of a hold that is approved
abbrev pub held_line : Request → Option ℕ → List ℕ
held_line row None = []
held_line row (Some end) = line_about row (held_words end)

-- what a reversal left of a hold
abbrev pub lowered_words : ℕ → Option ℕ → List ℕ
lowered_words amount None = codes "lowered to " ++ decimal amount
lowered_words amount (Some end) =
    codes "lowered to " ++ decimal amount ++ codes ", " ++ held_words end

-- a line, where its status says more than its reply
abbrev pub standing_line : Status → Request → List ℕ
standing_line Approved row = held_line row row.hold_end
standing_line Completed row = line_about row (codes "completed")
standing_line Reversed row = line_about row (codes "reversed")
standing_line Lowered row = line_about row (lowered_words row.amount row.hold_end)
standing_line status row = []

-- ---- all of it

-- two lines, or three
abbrev pub request_lines : Request → List ℕ
request_lines row =
    line_about row (asked_words row) ++ line_about row (reply_words row.status row.reply)
    ++ standing_line row.status row
