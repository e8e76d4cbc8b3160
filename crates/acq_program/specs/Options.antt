-- What the options hold, by the texts that stand for them.
use Rattle.std.specs.Prelude.{◌≡◌, ◌-◌, ◌^◌, ◌==◌, ℕ, Bool, ◌&&◌, nat_le, List, [], ◌∷◌}
use Rattle.std.specs.Prelude.{length}
use Rattle.std.specs.Prelude.{codes}
use Rattle.std.specs.Prelude.{map, Option, Some, None, unwrap_or, option_map, option_and_then}
use Rattle.std.specs.Prelude.{true, false}
use Rattle.std.specs.Prelude.{ok_or, Result, Ok, Err}
use Rattle.std.specs.Prelude.{if◌then◌else◌}
use Rattle.std.specs.Prelude.{slice_get, String, string_bytes}
use Rattle.std.specs.declared.alloc.Global.{Global}
use Rattle.std.specs.List.{list_all}
use Rattle.std.specs.Char.{is_ascii_digit}
use Rattle.std.specs.Str.{bytes_eq}
use Rattle.std.specs.Str.Parse.{digits_value}
use Rattle.std.specs.Net.Addr.{ipv4_octets}
use Rattle.std.specs.Net.Grammar.{IsIpv4Text}
use Rattle.std.specs.declared.net.ipv4_addr.Ipv4Addr.{Ipv4Addr}
use Rattle.clap.specs.Words.{Row, Text, all_of, first_of, first_value}
use Rattle.clap.specs.Words.{matched_of, raw_values}
use Rattle.clap.specs.declared.parser.matches.Found.{Found}
use Rattle.day_totals.specs.Day.{IsNoDateText, date_text_of}
use Rattle.acq_core.specs.Numbers.{is_limit}
use Rattle.acq_make.specs.declared.made_form.MadeForm.{MadeForm}
use Rattle.acq_make.specs.declared.made_form.MadeForm.TheVariants as made
use Rattle.acq_message.specs.Names.{is_trace}
use Rattle.acq_out.specs.Fields.{merchant_of_text, moment_of_text, terminal_of_text}
use Rattle.acq_directory.specs.Listings.{listing_named}
use Rattle.acq_directory.specs.declared.listing.Listing.{Listing}
use Rattle.acq_statement.specs.declared.statement_form.StatementForm.{StatementForm}
use Rattle.acq_statement.specs.declared.statement_form.StatementForm.TheVariants as statement
use Rattle.acq_faults.specs.declared.day_report.DayReport.{DayReport}
use Rattle.acq_commands.specs.declared.input_form.InputForm.{InputForm}
use Rattle.acq_commands.specs.declared.input_form.InputForm.TheVariants as form
use Rattle.acq_commands.specs.declared.said_form.SaidForm.{SaidForm}
use Rattle.acq_commands.specs.declared.said_form.SaidForm.TheVariants as said
use Rattle.acq_commands.specs.declared.shown_form.ShownForm.{ShownForm}
use Rattle.acq_commands.specs.declared.shown_form.ShownForm.TheVariants as shown
use Rattle.acq_json.specs.declared.card_form.CardForm.TheVariants as card
use Rattle.acq_program.specs.declared.option_name.OptionName.{OptionName}
use Rattle.acq_program.specs.declared.option_name.OptionName.TheVariants as option
use Rattle.acq_program.specs.declared.page_sums.PageSums.{PageSums}
use Rattle.acq_program.specs.declared.page_sums.PageSums.TheVariants as sums
use Rattle.acq_faults.specs.declared.report_kind.ReportKind.{ReportKind}
use Rattle.acq_faults.specs.declared.report_kind.ReportKind.TheVariants as kinds

-- an option's name, as it stands on the command line
abbrev pub name_of_option : OptionName → Text
name_of_option option.Db = codes "--db"
name_of_option option.Limit = codes "--limit"
name_of_option option.Day = codes "--day"
name_of_option option.Group = codes "--group"
name_of_option option.Merchant = codes "--merchant"
name_of_option option.At = codes "--at"
name_of_option option.Port = codes "--port"
name_of_option option.Address = codes "--address"
name_of_option option.Count = codes "--count"
name_of_option option.Idle = codes "--idle"
name_of_option option.FrameWithin = codes "--frame-within"
name_of_option option.StopWithin = codes "--stop-within"
name_of_option option.AnswerWithin = codes "--answer-within"
name_of_option option.GatewayWithin = codes "--gateway-within"
name_of_option option.Together = codes "--together"
name_of_option option.FromOneAddress = codes "--from-one-address"
name_of_option option.Issuers = codes "--issuers"
name_of_option option.Gateway = codes "--gateway"
name_of_option option.Control = codes "--control"
name_of_option option.Log = codes "--log"
name_of_option option.LogBytes = codes "--log-bytes"
name_of_option option.Within = codes "--within"
name_of_option option.Event = codes "--event"
name_of_option option.Events = codes "--events"
name_of_option option.Repeat = codes "--repeat"
name_of_option option.Whole = codes "--whole"
name_of_option option.Path = codes "PATH"
name_of_option option.What = codes "WHAT"
name_of_option option.Reference = codes "--reference"
name_of_option option.Terminal = codes "--terminal"
name_of_option option.Trace = codes "--trace"
name_of_option option.CardEnds = codes "--card-ends"
name_of_option option.To = codes "--to"
name_of_option option.Set = codes "--set"
name_of_option (option.Report kinds.Clearing) = codes "--clearing"
name_of_option (option.Report kinds.Settlement) = codes "--report"

-- the values of the options of a command, as they stand in the arguments
pub record OptionTexts : Type 0 where
  pub db : Option Text
  pub limit : Option Text
  pub day : Option Text
  pub group : Option Text
  pub merchant : Option Text
  pub moment : Option Text
  pub clearing : List Text
  pub report : List Text
  pub hex : Option Text
  pub json : Option Text
  pub whole : Option Text
  pub issuers : Option Text
  pub gateway : Option Text
  pub port : Option Text
  pub address : Option Text
  pub count : Option Text
  pub idle : Option Text
  pub frame_within : Option Text
  pub stop_within : Option Text
  pub answer_within : Option Text
  pub gateway_within : Option Text
  pub end_waiting : Option Text
  pub together : Option Text
  pub from_one_address : Option Text
  pub proxy_protocol : Option Text
  pub control : Option Text
  pub log : Option Text
  pub log_bytes : Option Text
  pub within : Option Text
  pub event : Option Text
  pub events : Option Text
  pub repeat : Option Text
  pub path : Option Text
  pub what : Option Text
  pub sums : Option Text
  pub csv : Option Text
  pub merchants : List Text
  pub reference : Option Text
  pub terminal : Option Text
  pub trace : Option Text
  pub card_ends : Option Text
  pub to : Option Text
  pub set : Option Text
  pub dry_run : Option Text

-- all values of an option
abbrev pub values_of : Text → List Row → List Text
values_of id rows = unwrap_or (all_of id rows) []

-- as clap's rules read them
abbrev pub option_texts : List Row → OptionTexts
option_texts rows = record {
  db = first_of (codes "db") rows;
  limit = first_of (codes "limit") rows;
  day = first_of (codes "day") rows;
  group = first_of (codes "group") rows;
  merchant = first_of (codes "merchant") rows;
  moment = first_of (codes "at") rows;
  clearing = values_of (codes "clearing") rows;
  report = values_of (codes "report") rows;
  hex = first_of (codes "hex") rows;
  json = first_of (codes "json") rows;
  whole = first_of (codes "whole") rows;
  issuers = first_of (codes "issuers") rows;
  gateway = first_of (codes "gateway") rows;
  port = first_of (codes "port") rows;
  address = first_of (codes "address") rows;
  count = first_of (codes "count") rows;
  idle = first_of (codes "idle") rows;
  frame_within = first_of (codes "frame-within") rows;
  stop_within = first_of (codes "stop-within") rows;
  answer_within = first_of (codes "answer-within") rows;
  gateway_within = first_of (codes "gateway-within") rows;
  end_waiting = first_of (codes "end-waiting") rows;
  together = first_of (codes "together") rows;
  from_one_address = first_of (codes "from-one-address") rows;
  proxy_protocol = first_of (codes "proxy-protocol") rows;
  control = first_of (codes "control") rows;
  log = first_of (codes "log") rows;
  log_bytes = first_of (codes "log-bytes") rows;
  within = first_of (codes "within") rows;
  event = first_of (codes "event") rows;
  events = first_of (codes "events") rows;
  repeat = first_of (codes "repeat") rows;
  path = first_of (codes "path") rows;
  what = first_of (codes "what") rows;
  sums = first_of (codes "sums") rows;
  csv = first_of (codes "csv") rows;
  merchants = values_of (codes "merchant") rows;
  reference = first_of (codes "reference") rows;
  terminal = first_of (codes "terminal") rows;
  trace = first_of (codes "trace") rows;
  card_ends = first_of (codes "card-ends") rows;
  to = first_of (codes "to") rows;
  set = first_of (codes "set") rows;
  dry_run = first_of (codes "dry-run") rows;
}

-- all values of an option, as they were found
abbrev pub values_found : Found → Text → List Text
values_found found id = unwrap_or (option_map raw_values (matched_of found id)) []

-- as the crate found them
abbrev pub found_texts : Found → OptionTexts
found_texts found = record {
  db = first_value found (codes "db");
  limit = first_value found (codes "limit");
  day = first_value found (codes "day");
  group = first_value found (codes "group");
  merchant = first_value found (codes "merchant");
  moment = first_value found (codes "at");
  clearing = values_found found (codes "clearing");
  report = values_found found (codes "report");
  hex = first_value found (codes "hex");
  json = first_value found (codes "json");
  whole = first_value found (codes "whole");
  issuers = first_value found (codes "issuers");
  gateway = first_value found (codes "gateway");
  port = first_value found (codes "port");
  address = first_value found (codes "address");
  count = first_value found (codes "count");
  idle = first_value found (codes "idle");
  frame_within = first_value found (codes "frame-within");
  stop_within = first_value found (codes "stop-within");
  answer_within = first_value found (codes "answer-within");
  gateway_within = first_value found (codes "gateway-within");
  end_waiting = first_value found (codes "end-waiting");
  together = first_value found (codes "together");
  from_one_address = first_value found (codes "from-one-address");
  proxy_protocol = first_value found (codes "proxy-protocol");
  control = first_value found (codes "control");
  log = first_value found (codes "log");
  log_bytes = first_value found (codes "log-bytes");
  within = first_value found (codes "within");
  event = first_value found (codes "event");
  events = first_value found (codes "events");
  repeat = first_value found (codes "repeat");
  path = first_value found (codes "path");
  what = first_value found (codes "what");
  sums = first_value found (codes "sums");
  csv = first_value found (codes "csv");
  merchants = values_found found (codes "merchant");
  reference = first_value found (codes "reference");
  terminal = first_value found (codes "terminal");
  trace = first_value found (codes "trace");
  card_ends = first_value found (codes "card-ends");
  to = first_value found (codes "to");
  set = first_value found (codes "set");
  dry_run = first_value found (codes "dry-run");
}

-- ---- the value of an option, or the name of the option where it has none in its form

-- 1 to 6 digits, leading zeros allowed
abbrev pub is_limit_text : Text → Bool
is_limit_text text =
    nat_le 1 (length text) && nat_le (length text) 6 && list_all is_ascii_digit text

-- a limit, 1 to 999,999
abbrev pub limit_of_text : Text → Option ℕ
limit_of_text text =
    if is_limit_text text && is_limit (digits_value 10 text) then Some (digits_value 10 text)
    else None

-- a number of 1 to so many digits, leading zeros allowed, from the least to the greatest
abbrev pub is_number_text : ℕ → ℕ → ℕ → Text → Bool
is_number_text digits least greatest text =
    nat_le 1 (length text) && nat_le (length text) digits && list_all is_ascii_digit text
    && nat_le least (digits_value 10 text) && nat_le (digits_value 10 text) greatest

abbrev pub number_of_text : ℕ → ℕ → ℕ → Text → Option ℕ
number_of_text digits least greatest text =
    if is_number_text digits least greatest text then Some (digits_value 10 text) else None

-- how many events are taken at once, 1 to 10,000
abbrev pub group_of_text : Text → Option ℕ
group_of_text text = number_of_text 5 1 10000 text

-- a port of TCP, 1 to 65,535
abbrev pub port_of_text : Text → Option ℕ
port_of_text text = number_of_text 5 1 65535 text

-- a number of connections, 1 to 999,999
abbrev pub count_of_text : Text → Option ℕ
count_of_text text = number_of_text 6 1 999999 text

-- a number of seconds, 0 to 999,999
abbrev pub seconds_of_text : Text → Option ℕ
seconds_of_text text = number_of_text 6 0 999999 text

-- a number of bytes, of up to fifteen digits
abbrev pub bytes_of_text : Text → Option ℕ
bytes_of_text text = number_of_text 15 0 999999999999999 text

-- how often a message is sent, 1 to 1,000,000
abbrev pub repeat_of_text : Text → Option ℕ
repeat_of_text text = number_of_text 7 1 1000000 text

-- how many connections are served at once, 1 to 1,024
abbrev pub together_of_text : Text → Option ℕ
together_of_text text = number_of_text 4 1 1024 text

-- the path of a book's file
abbrev pub FileIs : OptionTexts → Result (String Global) OptionName → Type 0
FileIs texts (Ok path) = texts.db ≡ Some (string_bytes path)
FileIs texts (Err name) = (name ≡ option.Db) × (texts.db ≡ None)

-- the path of the file of a list of ranges
abbrev pub ListFileIs : OptionTexts → Result (String Global) OptionName → Type 0
ListFileIs texts (Ok path) = texts.set ≡ Some (string_bytes path)
ListFileIs texts (Err name) = (name ≡ option.Set) × (texts.set ≡ None)

-- the path of a control socket's file
abbrev pub ControlIs : OptionTexts → Result (String Global) OptionName → Type 0
ControlIs texts (Ok path) = texts.control ≡ Some (string_bytes path)
ControlIs texts (Err name) = (name ≡ option.Control) × (texts.control ≡ None)

-- the limit, the greatest where the option isn't there
abbrev pub LimitIs : OptionTexts → Result ℕ OptionName → Type 0
LimitIs texts read =
    read ≡ ok_or (unwrap_or (option_map limit_of_text texts.limit) (Some 999999)) option.Limit

-- the day, written YYYY-MM-DD; 2000-01-01 where the option isn't there
abbrev pub GivesDay : Option Text → ℕ → Type 0
GivesDay None day = day ≡ 0
GivesDay (Some text) day = text ≡ date_text_of day

-- an option is there whose value is no day's date
abbrev pub GivesNoDay : Option Text → Type 0
GivesNoDay None = ⊥
GivesNoDay (Some text) = IsNoDateText text

abbrev pub DayIs : OptionTexts → Result ℕ OptionName → Type 0
DayIs texts (Ok day) = GivesDay texts.day day
DayIs texts (Err name) = (name ≡ option.Day) × GivesNoDay texts.day

-- such a day, where the option is there
abbrev pub DayIfThere : OptionTexts → Result (Option ℕ) OptionName → Type 0
DayIfThere texts (Ok None) = texts.day ≡ None
DayIfThere texts (Ok (Some day)) = texts.day ≡ Some (date_text_of day)
DayIfThere texts (Err name) = (name ≡ option.Day) × GivesNoDay texts.day

-- so many events at once: without the option 1
abbrev pub group_if_there : Option Text → Result ℕ OptionName
group_if_there None = Ok 1
group_if_there (Some text) = ok_or (group_of_text text) option.Group

abbrev pub GroupIs : OptionTexts → Result ℕ OptionName → Type 0
GroupIs texts read = read ≡ group_if_there texts.group

-- a merchant, as event lines have it
abbrev pub MerchantIs : OptionTexts → Result (List ℕ) OptionName → Type 0
MerchantIs texts read =
    read ≡ ok_or (option_and_then merchant_of_text texts.merchant) option.Merchant

-- the merchants that an option's values name, as event lines have them
abbrev pub GivesMerchants : List Text → List (List ℕ) → Type 0
GivesMerchants texts merchants = map merchant_of_text texts ≡ map (λ name. Some name) merchants

-- one of an option's values names no merchant
abbrev pub GivesNoMerchants : List Text → Type 0
GivesNoMerchants texts =
    (at : ℕ) × (text : Text) × (slice_get texts at ≡ Some text) × (merchant_of_text text ≡ None)

-- the merchants, or the option's name where one of its values is out of form
abbrev pub MerchantsAre : OptionTexts → Result (List (List ℕ)) OptionName → Type 0
MerchantsAre texts (Ok merchants) = GivesMerchants texts.merchants merchants
MerchantsAre texts (Err name) = (name ≡ option.Merchant) × GivesNoMerchants texts.merchants

-- the last day of a statement, written YYYY-MM-DD, where the option is there
abbrev pub LastDayIfThere : OptionTexts → Result (Option ℕ) OptionName → Type 0
LastDayIfThere texts (Ok None) = texts.to ≡ None
LastDayIfThere texts (Ok (Some day)) = texts.to ≡ Some (date_text_of day)
LastDayIfThere texts (Err name) = (name ≡ option.To) × GivesNoDay texts.to

-- a value of an option, where there is a text
abbrev pub value_if_there
    : {A : Type 0} → (Text → Option A) → OptionName → Option Text → Result (Option A) OptionName
value_if_there value_of name None = Ok None
value_if_there value_of name (Some text) = ok_or (option_map (λ x. Some x) (value_of text)) name

-- a reference, of 1 to 12 digits
abbrev pub reference_of_text : Text → Option ℕ
reference_of_text text = number_of_text 12 0 999999999999 text

abbrev pub ReferenceIfThere : OptionTexts → Result (Option ℕ) OptionName → Type 0
ReferenceIfThere texts read =
    read ≡ value_if_there reference_of_text option.Reference texts.reference

-- a terminal, as event lines have it
abbrev pub TerminalIfThere : OptionTexts → Result (Option (List ℕ)) OptionName → Type 0
TerminalIfThere texts read = read ≡ value_if_there terminal_of_text option.Terminal texts.terminal

-- a trace number, of six digits
abbrev pub trace_of_text : Text → Option (List ℕ)
trace_of_text text = if is_trace text then Some text else None

abbrev pub TraceIfThere : OptionTexts → Result (Option (List ℕ)) OptionName → Type 0
TraceIfThere texts read = read ≡ value_if_there trace_of_text option.Trace texts.trace

-- the last four digits of a card number
abbrev pub card_ends_of_text : Text → Option (List ℕ)
card_ends_of_text text =
    if length text == 4 && list_all is_ascii_digit text then Some text else None

abbrev pub CardEndsIfThere : OptionTexts → Result (Option (List ℕ)) OptionName → Type 0
CardEndsIfThere texts read = read ≡ value_if_there card_ends_of_text option.CardEnds texts.card_ends

-- what is listed: `merchants`, `terminals` or `ranges`
abbrev pub ListingIs : OptionTexts → Result Listing OptionName → Type 0
ListingIs texts read = read ≡ ok_or (option_and_then listing_named texts.what) option.What

-- a moment, where there is a text
abbrev pub moment_if_there : Option Text → Result (Option ℕ) OptionName
moment_if_there None = Ok None
moment_if_there (Some text) = ok_or (option_map (λ m. Some m) (moment_of_text text)) option.At

-- a moment, as event lines have it
abbrev pub MomentIs : OptionTexts → Result ℕ OptionName → Type 0
MomentIs texts read = read ≡ ok_or (option_and_then moment_of_text texts.moment) option.At

-- such a moment, where the option is there
abbrev pub MomentIfThere : OptionTexts → Result (Option ℕ) OptionName → Type 0
MomentIfThere texts read = read ≡ moment_if_there texts.moment

-- a port
abbrev pub PortIs : OptionTexts → Result ℕ OptionName → Type 0
PortIs texts read = read ≡ ok_or (option_and_then port_of_text texts.port) option.Port

-- an IPv4 address, written with dots: without the option 127.0.0.1
abbrev pub GivesAddress : Option Text → Ipv4Addr → Type 0
GivesAddress None address = ipv4_octets address ≡ 127 ∷ 0 ∷ 0 ∷ 1 ∷ []
GivesAddress (Some text) address = IsIpv4Text text address

-- an option is there whose value is no address
abbrev pub GivesNoAddress : Option Text → Type 0
GivesNoAddress None = ⊥
GivesNoAddress (Some text) = (address : Ipv4Addr) → ¬ IsIpv4Text text address

abbrev pub AddressIs : OptionTexts → Result Ipv4Addr OptionName → Type 0
AddressIs texts (Ok address) = GivesAddress texts.address address
AddressIs texts (Err name) = (name ≡ option.Address) × GivesNoAddress texts.address

-- so many connections: without the option, as many as can be counted
abbrev pub count_if_there : Option Text → Result ℕ OptionName
count_if_there None = Ok (2 ^ 64 - 1)
count_if_there (Some text) = ok_or (count_of_text text) option.Count

abbrev pub CountIs : OptionTexts → Result ℕ OptionName → Type 0
CountIs texts read = read ≡ count_if_there texts.count

-- so many seconds: without the option the usual ones
abbrev pub seconds_if_there : ℕ → OptionName → Option Text → Result ℕ OptionName
seconds_if_there usual name None = Ok usual
seconds_if_there usual name (Some text) = ok_or (seconds_of_text text) name

-- so many seconds of silence: without the option 60
abbrev pub IdleIs : OptionTexts → Result ℕ OptionName → Type 0
IdleIs texts read = read ≡ seconds_if_there 60 option.Idle texts.idle

-- so many seconds from a frame's first byte to its last: without the option 30
abbrev pub FrameWithinIs : OptionTexts → Result ℕ OptionName → Type 0
FrameWithinIs texts read = read ≡ seconds_if_there 30 option.FrameWithin texts.frame_within

-- so many seconds once the host was asked to end: without the option 10
abbrev pub StopWithinIs : OptionTexts → Result ℕ OptionName → Type 0
StopWithinIs texts read = read ≡ seconds_if_there 10 option.StopWithin texts.stop_within

-- so many seconds for an issuer's answer: without the option 30
abbrev pub AnswerWithinIs : OptionTexts → Result ℕ OptionName → Type 0
AnswerWithinIs texts read = read ≡ seconds_if_there 30 option.AnswerWithin texts.answer_within

-- so many seconds for a gateway where none is connected: without the option none
abbrev pub GatewayWithinIs : OptionTexts → Result ℕ OptionName → Type 0
GatewayWithinIs texts read = read ≡ seconds_if_there 0 option.GatewayWithin texts.gateway_within

-- so many seconds for an answer of a host: without the option 60
abbrev pub WithinIs : OptionTexts → Result ℕ OptionName → Type 0
WithinIs texts read = read ≡ seconds_if_there 60 option.Within texts.within

-- so many seconds for a reply of a host: without the option 30
abbrev pub ReplyWithinIs : OptionTexts → Result ℕ OptionName → Type 0
ReplyWithinIs texts read = read ≡ seconds_if_there 30 option.Within texts.within

-- so many times, where there is a text
abbrev pub repeat_if_there : Option Text → Result (Option ℕ) OptionName
repeat_if_there None = Ok None
repeat_if_there (Some text) = ok_or (option_map (λ n. Some n) (repeat_of_text text)) option.Repeat

-- a message is sent so often, where the option is there
abbrev pub RepeatIfThere : OptionTexts → Result (Option ℕ) OptionName → Type 0
RepeatIfThere texts read = read ≡ repeat_if_there texts.repeat

-- so many bytes of a log: without the option 1 GiB
abbrev pub bytes_if_there : Option Text → Result ℕ OptionName
bytes_if_there None = Ok (2 ^ 30)
bytes_if_there (Some text) = ok_or (bytes_of_text text) option.LogBytes

abbrev pub LogBytesIs : OptionTexts → Result ℕ OptionName → Type 0
LogBytesIs texts read = read ≡ bytes_if_there texts.log_bytes

-- so many connections at once: without the option 1
abbrev pub together_if_there : Option Text → Result ℕ OptionName
together_if_there None = Ok 1
together_if_there (Some text) = ok_or (together_of_text text) option.Together

abbrev pub TogetherIs : OptionTexts → Result ℕ OptionName → Type 0
TogetherIs texts read = read ≡ together_if_there texts.together

-- so many of them from one address, where there is a text
abbrev pub from_one_if_there : Option Text → Result (Option ℕ) OptionName
from_one_if_there None = Ok None
from_one_if_there (Some text) =
    ok_or (option_map (λ n. Some n) (together_of_text text)) option.FromOneAddress

abbrev pub FromOneAddressIs : OptionTexts → Result (Option ℕ) OptionName → Type 0
FromOneAddressIs texts read = read ≡ from_one_if_there texts.from_one_address

-- a report of a kind on a day
abbrev pub report_on : ReportKind → ℕ → DayReport
report_on kind day = record { kind = kind; day = day }

-- the reports of a kind that an option's values give: one on each day, written YYYY-MM-DD
abbrev pub GivesReports : ReportKind → List Text → List DayReport → Type 0
GivesReports kind texts reports =
    (days : List ℕ) × (texts ≡ map date_text_of days) × (reports ≡ map (report_on kind) days)

-- one of an option's values is no day's date
abbrev pub GivesNoReports : List Text → Type 0
GivesNoReports texts =
    (at : ℕ) × (text : Text) × (slice_get texts at ≡ Some text) × IsNoDateText text

-- the reports of a kind, or an option's name where one of its values is out of form
abbrev pub ReportsAre : ReportKind → List Text → Result (List DayReport) OptionName → Type 0
ReportsAre kind texts (Ok reports) = GivesReports kind texts reports
ReportsAre kind texts (Err name) = (name ≡ option.Report kind) × GivesNoReports texts

-- whether a flag is there
abbrev pub is_set : Option Text → Bool
is_set None = false
is_set (Some text) = bytes_eq text (codes "true")

-- the form of the input: lines of hexadecimal where the flag is there, else what it is by itself
abbrev pub form_of_flag : Option Text → InputForm
form_of_flag text = if is_set text then form.HexLines else form.Plain

-- whether the pages of a new book's file have sums
abbrev pub page_sums_by : Option Text → PageSums
page_sums_by text = if is_set text then sums.With else sums.Without

-- the form of a statement: CSV where the flag is there
abbrev pub statement_form_by : Option Text → StatementForm
statement_form_by text = if is_set text then statement.Csv else statement.Text

-- how messages are shown: as text, or as JSON where that flag is there, and then with cards whole
-- where that one is, too
abbrev pub shown_by : (json whole : Bool) → Result ShownForm OptionName
shown_by true true = Ok (shown.Json card.Whole)
shown_by true false = Ok (shown.Json card.Masked)
shown_by false true = Err option.Whole
shown_by false false = Ok shown.Text

abbrev pub ShownFormIs : OptionTexts → Result ShownForm OptionName → Type 0
ShownFormIs texts read = read ≡ shown_by (is_set texts.json) (is_set texts.whole)

-- how messages that are to be made are said: by JSON where the flag is there, else by lines
abbrev pub said_by : Option Text → SaidForm
said_by text = if is_set text then said.Json else said.Lines

-- the form in which messages are written: lines of hexadecimal where the flag is there
abbrev pub made_by : InputForm → MadeForm
made_by form.Plain = made.Frames
made_by form.HexLines = made.HexLines

-- event lines where their moment is there
abbrev pub made_form_by : Option Text → InputForm → Result MadeForm OptionName
made_form_by None form = Ok (made_by form)
made_form_by (Some text) form =
    ok_or (option_map (λ m. made.EventLines m) (moment_of_text text)) option.Event

abbrev pub MadeFormIs : OptionTexts → Result MadeForm OptionName → Type 0
MadeFormIs texts read = read ≡ made_form_by texts.event (form_of_flag texts.hex)
