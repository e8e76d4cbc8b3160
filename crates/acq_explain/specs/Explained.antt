-- What the host would say to an event, and why, in words (own profile).
use Rattle.std.specs.Prelude.{ℕ, Bool, true, false, List, [], ◌++◌, codes, Option, Some, None}
use Rattle.std.specs.Prelude.{Result, Ok, Err}
use Rattle.std.specs.Fmt.{decimal}
use Rattle.iso_codec.specs.Message.{IsoMessage}
use Rattle.iso_codec.specs.declared.decode_fault.DecodeFault.{DecodeFault}
use Rattle.iso_codec.specs.Reading.{reading_of}
use Rattle.acq_message.specs.declared.request_message.RequestMessage.{RequestMessage}
use Rattle.acq_message.specs.Responses.{code_text}
use Rattle.acq_message.specs.Elements.{text_at}
use Rattle.acq_core.specs.declared.arrival.Arrival.{Arrival}
use Rattle.acq_core.specs.declared.arrival.Arrival.TheVariants as arrival
use Rattle.acq_core.specs.declared.event.Event.{Event}
use Rattle.acq_core.specs.declared.output.Output.{Output}
use Rattle.acq_core.specs.declared.output.Output.TheVariants as output
use Rattle.acq_core.specs.Arrivals.{arrival_of, merchant_named}
use Rattle.acq_core.specs.Known.{Known}
use Rattle.acq_core.specs.Outcome.{outcome, output_of}
use Rattle.acq_core.specs.Tables.{Tables, known_in}
use Rattle.acq_out.specs.OutputLines.{line_of}
use Rattle.acq_reasons.specs.declared.reason.Reason.{Reason}
use Rattle.acq_reasons.specs.declared.reason.Reason.TheVariants as reason
use Rattle.acq_reasons.specs.Codes.{code_of}
use Rattle.acq_reasons.specs.Words.{word_of, sentence_of, element_of}
use Rattle.acq_reasons.specs.Reasons.{reason_for}
use Rattle.acq_explain.specs.Checks.{has_used_key, passed_line}
use Rattle.acq_explain.specs.Details.{decisive, element_detail, compared}
use Rattle.acq_explain.specs.Differing.{differing}
use Rattle.acq_explain.specs.Figures.{figure_lines}

-- ---- what the host says

-- the code of a reply
abbrev pub code_read : Result IsoMessage DecodeFault → List ℕ
code_read (Ok m) = text_at m 39
code_read (Err fault) = []

abbrev pub kept_mark : Bool → List ℕ
kept_mark false = []
kept_mark true = codes ", as it was kept"

abbrev pub coded : Bool → List ℕ → List ℕ
coded kept code = codes "reply " ++ code ++ kept_mark kept ++ codes "\n"

-- of what goes out for no reason: a reply's code, and whether it was kept, and any other line as it
-- is printed
abbrev pub said : Bool → Output → List ℕ
said kept (output.Reply merchant text) = coded kept (code_read (reading_of text))
said kept other = line_of other

-- a request whose key is used, and that isn't refused for it, is a repeat
abbrev pub is_repeat : Known → Arrival → Bool
is_repeat k (arrival.Requested r) = has_used_key k r
is_repeat k other = false

-- ---- why

-- the number of the word's element
abbrev pub numbered : Option ℕ → List ℕ
numbered None = []
numbered (Some n) = codes "-" ++ decimal n

-- a reason: the code, the word and the sentence
abbrev pub why_line : Reason → List ℕ
why_line why =
    codes "reply " ++ code_text (code_of why) ++ codes ", " ++ word_of why
    ++ numbered (element_of why) ++ codes ": " ++ sentence_of why ++ codes "\n"

-- the first line
abbrev pub first_line : Known → Arrival → Option Reason → Output → List ℕ
first_line k a None output = said (is_repeat k a) output
first_line k a (Some why) output = why_line why

-- ---- behind it

-- the element that a reason is about
unfoldable pub element_lines : IsoMessage → Option Reason → List ℕ
element_lines m None = []
element_lines m (Some why) = element_detail m (decisive m why)

-- the figures that aren't the day's
abbrev pub figures_of : Known → IsoMessage → Reason → List ℕ
figures_of k m reason.OutOfBalance = figure_lines m k.totals
figures_of k m other = []

-- what it was compared with, or differs in
unfoldable pub other_lines : Known → RequestMessage → Option Reason → List ℕ
other_lines k r None = []
other_lines k r (Some why) =
    compared k r.message why ++ differing k r why ++ figures_of k r.message why

-- of a request, if one came
abbrev pub request_lines : Known → Arrival → Option Reason → List ℕ
request_lines k (arrival.Malformed r) why = element_lines r.message why
request_lines k (arrival.Requested r) why =
    passed_line k r why ++ element_lines r.message why ++ other_lines k r why
request_lines k other why = []

-- ---- what is said of an event

abbrev pub explained_by : Known → Arrival → Option Reason → Output → List ℕ
explained_by k a why output = first_line k a why output ++ request_lines k a why

abbrev pub explained : Known → Arrival → List ℕ
explained k a = explained_by k a (reason_for k a) (output_of (merchant_named a) (outcome k a))

-- over tables
abbrev pub explained_in : Tables → Event → List ℕ
explained_in t e = explained (known_in t (arrival_of e)) (arrival_of e)
