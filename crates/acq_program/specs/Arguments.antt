-- What the arguments ask for, by the values of their options.
use Rattle.std.specs.Prelude.{◌≡◌, ◌⊎◌, ℕ, nat_lt, Bool, ◌&&◌, List, [], ◌++◌}
use Rattle.std.specs.Prelude.{codes, if◌then◌else◌}
use Rattle.std.specs.Prelude.{Option, Some, None, option_map, unwrap_or}
use Rattle.std.specs.Prelude.{is_some, true, false}
use Rattle.std.specs.Prelude.{Result, Ok, Err}
use Rattle.std.specs.Prelude.{String, string_bytes}
use Rattle.std.specs.declared.alloc.Global.{Global}
use Rattle.std.specs.Net.Socket.{v4_ip, v4_port}
use Rattle.std.specs.declared.net.ipv4_addr.Ipv4Addr.{Ipv4Addr}
use Rattle.std.specs.declared.net.socket_addr.SocketAddrV4.{SocketAddrV4}
use Rattle.clap.specs.Words.{Row, Text, HasKind, fault_of}
use Rattle.clap.specs.Words.{kind_of, subcommand_of}
use Rattle.clap.specs.declared.error.kind.ErrorKind.TheVariants.{OutOfMemory}
use Rattle.acq_directory.specs.declared.listing.Listing.{Listing}
use Rattle.acq_inquiry.specs.declared.inquiry.Inquiry.{Inquiry}
use Rattle.acq_inquiry.specs.declared.inquiry.Inquiry.TheVariants as inquiry
use Rattle.acq_make.specs.declared.made_form.MadeForm.{MadeForm}
use Rattle.acq_program.specs.Program.{program}
use Rattle.acq_program.specs.declared.action.Action.{Action}
use Rattle.acq_program.specs.declared.action.Action.TheVariants.{Init, Migrate, Once, Listen}
use Rattle.acq_program.specs.declared.action.Action.TheVariants.{Replay, Report, Holds, Show, Make}
use Rattle.acq_program.specs.declared.action.Action.TheVariants.{Pending, Status, Tell, Ask, Explain}
use Rattle.acq_program.specs.declared.action.Action.TheVariants as actions
use Rattle.acq_statement.specs.declared.days.Days.{Days}
use Rattle.acq_faults.specs.declared.day_report.DayReport.{DayReport}
use Rattle.acq_commands.specs.declared.explain_options.ExplainOptions.{ExplainOptions}
use Rattle.acq_commands.specs.declared.input_form.InputForm.{InputForm}
use Rattle.acq_commands.specs.declared.said_form.SaidForm.{SaidForm}
use Rattle.acq_commands.specs.declared.shown_form.ShownForm.{ShownForm}
use Rattle.acq_faults.specs.declared.listen_options.ListenOptions.{ListenOptions}
use Rattle.acq_faults.specs.declared.patience.Patience.{Patience}
use Rattle.acq_program.specs.declared.bounds.Bounds.{Bounds}
use Rattle.acq_program.specs.declared.sought.Sought.{Sought}
use Rattle.acq_program.specs.Apart.{clash_of}
use Rattle.acq_program.specs.declared.option_name.OptionName.{OptionName}
use Rattle.acq_program.specs.declared.option_name.OptionName.TheVariants as option
use Rattle.acq_faults.specs.declared.report_kind.ReportKind.{ReportKind}
use Rattle.acq_faults.specs.declared.report_kind.ReportKind.TheVariants as kinds
use Rattle.acq_program.specs.declared.usage_fault.UsageFault.{UsageFault}
use Rattle.acq_program.specs.declared.usage_fault.UsageFault.TheVariants.{Words, BadValue}
use Rattle.acq_program.specs.Options.{AddressIs, AnswerWithinIs, CardEndsIfThere, ControlIs}
use Rattle.acq_program.specs.Options.{CountIs}
use Rattle.acq_program.specs.Options.{DayIfThere, DayIs, FileIs, FrameWithinIs, FromOneAddressIs}
use Rattle.acq_program.specs.Options.{GatewayWithinIs, GroupIs, IdleIs, LastDayIfThere, LimitIs}
use Rattle.acq_program.specs.Options.{ListFileIs, ListingIs, LogBytesIs, MadeFormIs, MerchantIs}
use Rattle.acq_program.specs.Options.{MerchantsAre, MomentIfThere, MomentIs, OptionTexts, PortIs}
use Rattle.acq_program.specs.Options.{ReferenceIfThere, RepeatIfThere, ReplyWithinIs, ReportsAre}
use Rattle.acq_program.specs.Options.{ShownFormIs, StopWithinIs, TerminalIfThere, TogetherIs}
use Rattle.acq_program.specs.Options.{TraceIfThere, WithinIs, form_of_flag, is_set, option_texts}
use Rattle.acq_program.specs.Options.{page_sums_by, report_on, said_by, statement_form_by}

-- ---- what a command is asked for

-- a first option is read, and the rest by its value, or the first is out of its form
abbrev pub Then
    : {A B : Type 0} → (Result A OptionName → Type 0) → (A → Result B OptionName → Type 0)
    → Result B OptionName → Type 0
Then {A} {B} First Rest read =
    ((name : OptionName) × (read ≡ Err name) × First (Err name))
    ⊎ ((value : A) × First (Ok value) × Rest value read)

-- a new book in this file, with this limit and this first day, whose pages have sums or none
abbrev pub IsInit
    : OptionTexts → String Global → ℕ → ℕ → Result Action OptionName → Type 0
IsInit texts path limit day read =
    read ≡ Ok (Init (record { path = path; limit = limit; first_day = day })
    (page_sums_by texts.sums))

abbrev pub InitWith : OptionTexts → String Global → ℕ → Result Action OptionName → Type 0
InitWith texts path limit = Then (DayIs texts) (IsInit texts path limit)

abbrev pub InitIn : OptionTexts → String Global → Result Action OptionName → Type 0
InitIn texts path = Then (LimitIs texts) (InitWith texts path)

-- what `init` is asked for: the file first, then the limit, then the day
abbrev pub AsksInit : OptionTexts → Result Action OptionName → Type 0
AsksInit texts = Then (FileIs texts) (InitIn texts)

-- the book in this file
abbrev pub IsMigrate : String Global → Result Action OptionName → Type 0
IsMigrate path read = read ≡ Ok (Migrate path)

-- what `migrate` is asked for
abbrev pub AsksMigrate : OptionTexts → Result Action OptionName → Type 0
AsksMigrate texts = Then (FileIs texts) IsMigrate

-- frames over this book, with this file of issuers' answers, at this moment
abbrev pub IsOnce : Option Text → Option Text → Option ℕ → Result Action OptionName → Type 0
IsOnce book issuers moment (Ok (Once asked)) =
    (option_map string_bytes asked.book ≡ book)
    × (option_map string_bytes asked.issuers ≡ issuers) × (asked.moment ≡ moment)
IsOnce book issuers moment other = ⊥

-- what `once` is asked for
abbrev pub AsksOnce : OptionTexts → Result Action OptionName → Type 0
AsksOnce texts = Then (MomentIfThere texts) (IsOnce texts.db texts.issuers)

-- a connection may be idle so long, its frames may take so long, it may be there so long once the
-- host was asked to end, and it may wait so long for its issuer's answer, and so long for a gateway
abbrev pub IsPatience : ℕ → ℕ → ℕ → ℕ → ℕ → Result Patience OptionName → Type 0
IsPatience idle frame_within stop_within answer_within gateway_within read =
    read ≡ Ok (record {
      idle = idle;
      frame_within = frame_within;
      stop_within = stop_within;
      answer_within = answer_within;
      gateway_within = gateway_within;
    })

abbrev pub PatienceBeside : OptionTexts → ℕ → ℕ → ℕ → ℕ → Result Patience OptionName → Type 0
PatienceBeside texts idle frame_within stop_within answer_within =
    Then (GatewayWithinIs texts) (IsPatience idle frame_within stop_within answer_within)

abbrev pub PatienceUpTo : OptionTexts → ℕ → ℕ → ℕ → Result Patience OptionName → Type 0
PatienceUpTo texts idle frame_within stop_within =
    Then (AnswerWithinIs texts) (PatienceBeside texts idle frame_within stop_within)

abbrev pub PatienceWith : OptionTexts → ℕ → ℕ → Result Patience OptionName → Type 0
PatienceWith texts idle frame_within =
    Then (StopWithinIs texts) (PatienceUpTo texts idle frame_within)

abbrev pub PatienceFor : OptionTexts → ℕ → Result Patience OptionName → Type 0
PatienceFor texts idle = Then (FrameWithinIs texts) (PatienceWith texts idle)

-- how long a connection may take: in silence first, then with a frame, then once the host was asked
-- to end, then for its issuer's answer, then for a gateway
abbrev pub PatienceIs : OptionTexts → Result Patience OptionName → Type 0
PatienceIs texts = Then (IdleIs texts) (PatienceFor texts)

-- so many connections at once, so many of them from one address, and so many bytes of a log
abbrev pub AreBounds : ℕ → Option ℕ → ℕ → Result Bounds OptionName → Type 0
AreBounds together from_one_address log_bytes read =
    read ≡ Ok (record {
      together = together;
      from_one_address = from_one_address;
      log_bytes = log_bytes;
    })

abbrev pub BoundsUpTo : OptionTexts → ℕ → Option ℕ → Result Bounds OptionName → Type 0
BoundsUpTo texts together from_one_address =
    Then (LogBytesIs texts) (AreBounds together from_one_address)

abbrev pub BoundsWith : OptionTexts → ℕ → Result Bounds OptionName → Type 0
BoundsWith texts together = Then (FromOneAddressIs texts) (BoundsUpTo texts together)

abbrev pub BoundsAre : OptionTexts → Result Bounds OptionName → Type 0
BoundsAre texts = Then (TogetherIs texts) (BoundsWith texts)

-- this port at this address
abbrev pub IsEndpoint : ℕ → Ipv4Addr → Result SocketAddrV4 OptionName → Type 0
IsEndpoint port address (Ok endpoint) = (v4_ip endpoint ≡ address) × (v4_port endpoint ≡ port)
IsEndpoint port address (Err name) = ⊥

abbrev pub EndpointAt : OptionTexts → ℕ → Result SocketAddrV4 OptionName → Type 0
EndpointAt texts port = Then (AddressIs texts) (IsEndpoint port)

-- where connections are taken: the port first, then the address
abbrev pub EndpointIs : OptionTexts → Result SocketAddrV4 OptionName → Type 0
EndpointIs texts = Then (PortIs texts) (EndpointAt texts)

-- so many connections here over this book, with this file of issuers' answers, a gateway at this
-- socket, requests that wait ended first or not, at this moment, with so much patience for each, so
-- many of them at once and from one address, each behind a proxy's header or none, control
-- connections at this socket, and a log of so many bytes in this file
abbrev pub IsListened : OptionTexts → String Global → SocketAddrV4 → ℕ → Option ℕ → Patience →
    Bounds → Result ListenOptions OptionName → Type 0
IsListened texts path endpoint count moment patience bounds (Ok asked) =
    (asked.path ≡ path) × (asked.endpoint ≡ endpoint) × (asked.count ≡ count)
    × (option_map string_bytes asked.issuers ≡ texts.issuers)
    × (option_map string_bytes asked.gateway ≡ texts.gateway)
    × (asked.end_waiting ≡ is_set texts.end_waiting) × (asked.moment ≡ moment)
    × (asked.patience ≡ patience) × (asked.together ≡ bounds.together)
    × (asked.from_one_address ≡ bounds.from_one_address)
    × (asked.proxy_protocol ≡ is_set texts.proxy_protocol)
    × (option_map string_bytes asked.control ≡ texts.control)
    × (option_map string_bytes asked.log ≡ texts.log) × (asked.log_bytes ≡ bounds.log_bytes)
IsListened texts path endpoint count moment patience bounds (Err name) = ⊥

abbrev pub ListenBeside : OptionTexts → String Global → SocketAddrV4 → ℕ → Option ℕ → Patience →
    Result ListenOptions OptionName → Type 0
ListenBeside texts path endpoint count moment patience =
    Then (BoundsAre texts) (IsListened texts path endpoint count moment patience)

abbrev pub ListenAt : OptionTexts → String Global → SocketAddrV4 → ℕ → Option ℕ →
    Result ListenOptions OptionName → Type 0
ListenAt texts path endpoint count moment =
    Then (PatienceIs texts) (ListenBeside texts path endpoint count moment)

abbrev pub ListenFor
    : OptionTexts → String Global → SocketAddrV4 → ℕ → Result ListenOptions OptionName → Type 0
ListenFor texts path endpoint count =
    Then (MomentIfThere texts) (ListenAt texts path endpoint count)

abbrev pub ListenOn
    : OptionTexts → String Global → SocketAddrV4 → Result ListenOptions OptionName → Type 0
ListenOn texts path endpoint = Then (CountIs texts) (ListenFor texts path endpoint)

abbrev pub ListenIn : OptionTexts → String Global → Result ListenOptions OptionName → Type 0
ListenIn texts path = Then (EndpointIs texts) (ListenOn texts path)

-- the options of `listen`: the file first, then the port and the address, how many connections, the
-- moment, how long each may take, how many at once and from one address, and how many bytes of a log
abbrev pub ListenedIs : OptionTexts → Result ListenOptions OptionName → Type 0
ListenedIs texts = Then (FileIs texts) (ListenIn texts)

-- they are asked for, unless one names the file of another
abbrev pub unless_clash : Option OptionName → ListenOptions → Result Action OptionName
unless_clash None asked = Ok (Listen asked)
unless_clash (Some name) asked = Err name

abbrev pub IsListen : ListenOptions → Result Action OptionName → Type 0
IsListen asked read = read ≡ unless_clash (clash_of asked) asked

-- what `listen` is asked for: its options, none of which names the file of another
abbrev pub AsksListen : OptionTexts → Result Action OptionName → Type 0
AsksListen texts = Then (ListenedIs texts) IsListen

-- a replay over this book, in groups of this size, with these reports
abbrev pub IsReplay
    : Option Text → ℕ → ℕ → ℕ → List DayReport → Result Action OptionName → Type 0
IsReplay book limit day group reports (Ok (Replay asked)) =
    (option_map string_bytes asked.book ≡ book) × (asked.limit ≡ limit) × (asked.first_day ≡ day)
    × (asked.group ≡ group) × (asked.reports.items ≡ reports)
IsReplay book limit day group reports other = ⊥

abbrev pub ReplayBehind
    : OptionTexts → ℕ → ℕ → ℕ → List DayReport → List DayReport → Result Action OptionName → Type 0
ReplayBehind texts limit day group clearings settlements =
    IsReplay texts.db limit day group (clearings ++ settlements)

abbrev pub ReplayWith
    : OptionTexts → ℕ → ℕ → ℕ → List DayReport → Result Action OptionName → Type 0
ReplayWith texts limit day group clearings =
    Then (ReportsAre kinds.Settlement texts.report) (ReplayBehind texts limit day group clearings)

abbrev pub ReplayBy : OptionTexts → ℕ → ℕ → ℕ → Result Action OptionName → Type 0
ReplayBy texts limit day group =
    Then (ReportsAre kinds.Clearing texts.clearing) (ReplayWith texts limit day group)

abbrev pub ReplayOn : OptionTexts → ℕ → ℕ → Result Action OptionName → Type 0
ReplayOn texts limit day = Then (GroupIs texts) (ReplayBy texts limit day)

abbrev pub ReplayUpTo : OptionTexts → ℕ → Result Action OptionName → Type 0
ReplayUpTo texts limit = Then (DayIs texts) (ReplayOn texts limit)

-- what `replay` is asked for: the limit first, then the day, then the group's size, then the
-- clearing files and the settlement reports
abbrev pub AsksReplay : OptionTexts → Result Action OptionName → Type 0
AsksReplay texts = Then (LimitIs texts) (ReplayUpTo texts)

-- a report of this kind on the book in this file
abbrev pub report_in : ReportKind → String Global → ℕ → Action
report_in kind path day = Report (record { path = path; report = report_on kind day })

-- the clearing file
abbrev pub IsClearing : String Global → ℕ → Result Action OptionName → Type 0
IsClearing path day read = read ≡ Ok (report_in kinds.Clearing path day)

abbrev pub ClearingIn : OptionTexts → String Global → Result Action OptionName → Type 0
ClearingIn texts path = Then (DayIs texts) (IsClearing path)

-- what `clearing` is asked for: the file first, then the day
abbrev pub AsksClearing : OptionTexts → Result Action OptionName → Type 0
AsksClearing texts = Then (FileIs texts) (ClearingIn texts)

-- the settlement report, as CSV where that is asked for
abbrev pub settlement_by : Bool → String Global → ℕ → Action
settlement_by true path day = actions.ReportCsv (record { path = path; day = day })
settlement_by false path day = report_in kinds.Settlement path day

abbrev pub IsReport : OptionTexts → String Global → ℕ → Result Action OptionName → Type 0
IsReport texts path day read = read ≡ Ok (settlement_by (is_set texts.csv) path day)

abbrev pub ReportIn : OptionTexts → String Global → Result Action OptionName → Type 0
ReportIn texts path = Then (DayIs texts) (IsReport texts path)

-- what `report` is asked for: the file first, then the day
abbrev pub AsksReport : OptionTexts → Result Action OptionName → Type 0
AsksReport texts = Then (FileIs texts) (ReportIn texts)

-- the days from a first to a last one: without one, the first alone
abbrev pub days_between : ℕ → Option ℕ → Days
days_between first last = record { first = first; last = unwrap_or last first }

-- these days, the last of which doesn't lie before the first
abbrev pub unless_before : Days → Result Days OptionName
unless_before days = if nat_lt days.last days.first then Err option.To else Ok days

abbrev pub IsSpan : Days → Result Days OptionName → Type 0
IsSpan days read = read ≡ unless_before days

abbrev pub AreDays : ℕ → Option ℕ → Result Days OptionName → Type 0
AreDays first last = IsSpan (days_between first last)

abbrev pub DaysFrom : OptionTexts → ℕ → Result Days OptionName → Type 0
DaysFrom texts first = Then (LastDayIfThere texts) (AreDays first)

-- the days of a statement: the first one first, then the last
abbrev pub DaysAre : OptionTexts → Result Days OptionName → Type 0
DaysAre texts = Then (DayIs texts) (DaysFrom texts)

-- a statement of these merchants of the book in this file, on these days, in this form
abbrev pub IsStatement
    : OptionTexts → String Global → Days → List (List ℕ) → Result Action OptionName → Type 0
IsStatement texts path days merchants (Ok (actions.Statement asked)) =
    (asked.path ≡ path) × (asked.merchants.items ≡ merchants) × (asked.days ≡ days)
    × (asked.form ≡ statement_form_by texts.csv)
IsStatement texts path days merchants other = ⊥

abbrev pub StatementOn
    : OptionTexts → String Global → Days → Result Action OptionName → Type 0
StatementOn texts path days = Then (MerchantsAre texts) (IsStatement texts path days)

abbrev pub StatementIn : OptionTexts → String Global → Result Action OptionName → Type 0
StatementIn texts path = Then (DaysAre texts) (StatementOn texts path)

-- what `statement` is asked for: the file first, then the days, then the merchants
abbrev pub AsksStatement : OptionTexts → Result Action OptionName → Type 0
AsksStatement texts = Then (FileIs texts) (StatementIn texts)

-- by this reference, this terminal, this trace number, these last digits of a card and this day
abbrev pub IsSought : Option ℕ → Option (List ℕ) → Option (List ℕ) → Option (List ℕ) → Option ℕ
    → Result Sought OptionName → Type 0
IsSought reference terminal trace card_ends day read =
    read ≡ Ok (record {
      reference = reference;
      terminal = terminal;
      trace = trace;
      card_ends = card_ends;
      day = day;
    })

abbrev pub SoughtOn : OptionTexts → Option ℕ → Option (List ℕ) → Option (List ℕ)
    → Option (List ℕ) → Result Sought OptionName → Type 0
SoughtOn texts reference terminal trace card_ends =
    Then (DayIfThere texts) (IsSought reference terminal trace card_ends)

abbrev pub SoughtWith : OptionTexts → Option ℕ → Option (List ℕ) → Option (List ℕ)
    → Result Sought OptionName → Type 0
SoughtWith texts reference terminal trace =
    Then (CardEndsIfThere texts) (SoughtOn texts reference terminal trace)

abbrev pub SoughtAt : OptionTexts → Option ℕ → Option (List ℕ)
    → Result Sought OptionName → Type 0
SoughtAt texts reference terminal =
    Then (TraceIfThere texts) (SoughtWith texts reference terminal)

abbrev pub SoughtBy : OptionTexts → Option ℕ → Result Sought OptionName → Type 0
SoughtBy texts reference = Then (TerminalIfThere texts) (SoughtAt texts reference)

-- by what a request is looked for: the reference first, then the terminal, then the trace number,
-- then the last digits of the card, then the day
abbrev pub SoughtIs : OptionTexts → Result Sought OptionName → Type 0
SoughtIs texts = Then (ReferenceIfThere texts) (SoughtBy texts)

-- what is asked for: by a reference alone, by a terminal and a trace number, or by the last digits
-- of a card and a day
abbrev pub inquiry_by : Option ℕ → Option (List ℕ) → Option (List ℕ) → Option (List ℕ) → Option ℕ
    → Option Inquiry
inquiry_by (Some reference) None None None None = Some (inquiry.Reference reference)
inquiry_by None (Some terminal) (Some trace) None None = Some (inquiry.Trace terminal trace)
inquiry_by None None None (Some digits) (Some day) = Some (inquiry.CardEnds digits day)
inquiry_by _ _ _ _ _ = None

abbrev pub inquiry_of : Sought → Option Inquiry
inquiry_of sought =
    inquiry_by sought.reference sought.terminal sought.trace sought.card_ends sought.day

-- this is looked for, unless the options are of no one way to ask
abbrev pub find_by : String Global → List ℕ → Option Inquiry → Result Action OptionName
find_by path merchant None = Err option.Reference
find_by path merchant (Some asked) =
    Ok (actions.Find (record { path = path; merchant = merchant; inquiry = asked }))

abbrev pub IsFind : String Global → List ℕ → Sought → Result Action OptionName → Type 0
IsFind path merchant sought read = read ≡ find_by path merchant (inquiry_of sought)

abbrev pub FindOf : OptionTexts → String Global → List ℕ → Result Action OptionName → Type 0
FindOf texts path merchant = Then (SoughtIs texts) (IsFind path merchant)

abbrev pub FindIn : OptionTexts → String Global → Result Action OptionName → Type 0
FindIn texts path = Then (MerchantIs texts) (FindOf texts path)

-- what `find` is asked for: the file first, then the merchant, then by what
abbrev pub AsksFind : OptionTexts → Result Action OptionName → Type 0
AsksFind texts = Then (FileIs texts) (FindIn texts)

-- the open holds of this merchant at this moment
abbrev pub IsHolds : String Global → List ℕ → ℕ → Result Action OptionName → Type 0
IsHolds path merchant moment read =
    read ≡ Ok (Holds (record { path = path; merchant = merchant; moment = moment }))

abbrev pub HoldsOf : OptionTexts → String Global → List ℕ → Result Action OptionName → Type 0
HoldsOf texts path merchant = Then (MomentIs texts) (IsHolds path merchant)

abbrev pub HoldsIn : OptionTexts → String Global → Result Action OptionName → Type 0
HoldsIn texts path = Then (MerchantIs texts) (HoldsOf texts path)

-- what `holds` is asked for: the file first, then the merchant, then the moment
abbrev pub AsksHolds : OptionTexts → Result Action OptionName → Type 0
AsksHolds texts = Then (FileIs texts) (HoldsIn texts)

-- this listing of the book in this file
abbrev pub IsList : String Global → Listing → Result Action OptionName → Type 0
IsList path listing read = read ≡ Ok (actions.List (record { path = path; listing = listing }))

abbrev pub ListIn : OptionTexts → String Global → Result Action OptionName → Type 0
ListIn texts path = Then (ListingIs texts) (IsList path)

-- what `list` is asked for: the file first, then what is listed
abbrev pub AsksList : OptionTexts → Result Action OptionName → Type 0
AsksList texts = Then (FileIs texts) (ListIn texts)

-- the list in this file for the book in this one, told alone or taken
abbrev pub IsRanges
    : OptionTexts → String Global → String Global → Result Action OptionName → Type 0
IsRanges texts path list read =
    read ≡ Ok (actions.Ranges
    (record { path = path; list = list; is_dry = is_set texts.dry_run }))

abbrev pub RangesIn : OptionTexts → String Global → Result Action OptionName → Type 0
RangesIn texts path = Then (ListFileIs texts) (IsRanges texts path)

-- what `ranges` is asked for of a book: its file first, then the list's
abbrev pub AsksBookRanges : OptionTexts → Result Action OptionName → Type 0
AsksBookRanges texts = Then (FileIs texts) (RangesIn texts)

-- the list in this file for the host at this path, for whose answers so many seconds are waited,
-- told alone or taken
abbrev pub IsHostRanges
    : OptionTexts → String Global → ℕ → String Global → Result Action OptionName → Type 0
IsHostRanges texts path within list read =
    read ≡ Ok (actions.HostRanges
    (record { path = path; within = within; list = list; is_dry = is_set texts.dry_run }))

abbrev pub HostRangesFor : OptionTexts → String Global → ℕ → Result Action OptionName → Type 0
HostRangesFor texts path within = Then (ListFileIs texts) (IsHostRanges texts path within)

abbrev pub HostRangesAt : OptionTexts → String Global → Result Action OptionName → Type 0
HostRangesAt texts path = Then (WithinIs texts) (HostRangesFor texts path)

-- what `ranges` is asked for of a host: the path first, then how long an answer may take, then the
-- list's file
abbrev pub AsksHostRanges : OptionTexts → Result Action OptionName → Type 0
AsksHostRanges texts = Then (ControlIs texts) (HostRangesAt texts)

-- of a host where there is a control socket, else of a book; and not of both
abbrev pub AsksRangesBy
    : (control db : Option Text) → OptionTexts → Result Action OptionName → Type 0
AsksRangesBy None db texts read = AsksBookRanges texts read
AsksRangesBy (Some control) None texts read = AsksHostRanges texts read
AsksRangesBy (Some control) (Some db) texts read = read ≡ Err option.Db

-- what `ranges` is asked for
abbrev pub AsksRanges : OptionTexts → Result Action OptionName → Type 0
AsksRanges texts = AsksRangesBy texts.control texts.db texts

-- answers to what is pending in this book on this day, by this file of issuers' answers, at this
-- moment
abbrev pub IsPending
    : String Global → Option ℕ → Option Text → Option ℕ → Result Action OptionName → Type 0
IsPending path day issuers moment (Ok (Pending asked)) =
    (asked.path ≡ path) × (asked.day ≡ day)
    × (option_map string_bytes asked.issuers ≡ issuers) × (asked.moment ≡ moment)
IsPending path day issuers moment other = ⊥

abbrev pub PendingOn
    : OptionTexts → String Global → Option ℕ → Result Action OptionName → Type 0
PendingOn texts path day = Then (MomentIfThere texts) (IsPending path day texts.issuers)

abbrev pub PendingIn : OptionTexts → String Global → Result Action OptionName → Type 0
PendingIn texts path = Then (DayIfThere texts) (PendingOn texts path)

-- what `pending` is asked for: the file first, then the day, then the moment
abbrev pub AsksPending : OptionTexts → Result Action OptionName → Type 0
AsksPending texts = Then (FileIs texts) (PendingIn texts)

-- messages for the host here, for whose replies so many seconds are waited, one of them so often
abbrev pub IsAsk : SocketAddrV4 → ℕ → Option ℕ → Result Action OptionName → Type 0
IsAsk endpoint within repeat read =
    read ≡ Ok (Ask (record { endpoint = endpoint; within = within; repeat = repeat }))

abbrev pub AskWithin : OptionTexts → SocketAddrV4 → ℕ → Result Action OptionName → Type 0
AskWithin texts endpoint within = Then (RepeatIfThere texts) (IsAsk endpoint within)

abbrev pub AskAt : OptionTexts → SocketAddrV4 → Result Action OptionName → Type 0
AskAt texts endpoint = Then (ReplyWithinIs texts) (AskWithin texts endpoint)

-- what `ask` is asked for: the port and the address first, then how long a reply may take, then how
-- often one message is sent
abbrev pub AsksAsk : OptionTexts → Result Action OptionName → Type 0
AsksAsk texts = Then (EndpointIs texts) (AskAt texts)

-- the path of a socket's file
abbrev pub PathIs : OptionTexts → Result (String Global) OptionName → Type 0
PathIs texts (Ok path) = texts.path ≡ Some (string_bytes path)
PathIs texts (Err name) = (name ≡ option.Path) × (texts.path ≡ None)

-- the host at this path, for whose answers so many seconds are waited
abbrev pub IsTell : String Global → ℕ → Result Action OptionName → Type 0
IsTell path within read = read ≡ Ok (Tell (record { path = path; within = within }))

abbrev pub TellAt : OptionTexts → String Global → Result Action OptionName → Type 0
TellAt texts path = Then (WithinIs texts) (IsTell path)

-- what `tell` is asked for: the path first, then how long an answer may take
abbrev pub AsksTell : OptionTexts → Result Action OptionName → Type 0
AsksTell texts = Then (PathIs texts) (TellAt texts)

-- the figures of the book in this file
abbrev pub IsStatus : String Global → Result Action OptionName → Type 0
IsStatus path read = read ≡ Ok (Status path)

-- what `status` is asked for
abbrev pub AsksStatus : OptionTexts → Result Action OptionName → Type 0
AsksStatus texts = Then (FileIs texts) IsStatus

-- the page of the host at this path, at this port
abbrev pub IsPage : String Global → ℕ → Result Action OptionName → Type 0
IsPage control port read =
    read ≡ Ok (actions.Page (record { control = control; port = port }))

abbrev pub PageOf : OptionTexts → String Global → Result Action OptionName → Type 0
PageOf texts control = Then (PortIs texts) (IsPage control)

-- what `page` is asked for: the control socket's path first, then the port
abbrev pub AsksPage : OptionTexts → Result Action OptionName → Type 0
AsksPage texts = Then (ControlIs texts) (PageOf texts)

-- what the host would say over this book, or over a new one behind these events
abbrev pub IsExplained
    : OptionTexts → ℕ → ℕ → Option ℕ → Result ExplainOptions OptionName → Type 0
IsExplained texts limit day moment (Ok asked) =
    (option_map string_bytes asked.book ≡ texts.db)
    × (option_map string_bytes asked.events ≡ texts.events) × (asked.limit ≡ limit)
    × (asked.first_day ≡ day) × (asked.form ≡ form_of_flag texts.hex) × (asked.moment ≡ moment)
IsExplained texts limit day moment (Err name) = ⊥

abbrev pub ExplainOn : OptionTexts → ℕ → ℕ → Result ExplainOptions OptionName → Type 0
ExplainOn texts limit day = Then (MomentIfThere texts) (IsExplained texts limit day)

abbrev pub ExplainUpTo : OptionTexts → ℕ → Result ExplainOptions OptionName → Type 0
ExplainUpTo texts limit = Then (DayIs texts) (ExplainOn texts limit)

-- the options of `explain`: the limit first, then the day, then the moment
abbrev pub ExplainedIs : OptionTexts → Result ExplainOptions OptionName → Type 0
ExplainedIs texts = Then (LimitIs texts) (ExplainUpTo texts)

-- they are asked for, unless events are named for a book in a file, which takes none first
abbrev pub takes_both : ExplainOptions → Bool
takes_both asked = is_some asked.book && is_some asked.events

abbrev pub unless_both : Bool → ExplainOptions → Result Action OptionName
unless_both true asked = Err option.Events
unless_both false asked = Ok (Explain asked)

abbrev pub IsExplain : ExplainOptions → Result Action OptionName → Type 0
IsExplain asked read = read ≡ unless_both (takes_both asked) asked

-- what `explain` is asked for
abbrev pub AsksExplain : OptionTexts → Result Action OptionName → Type 0
AsksExplain texts = Then (ExplainedIs texts) IsExplain

-- the messages of an input in this form, so
abbrev pub IsShow : InputForm → ShownForm → Result Action OptionName → Type 0
IsShow form how read = read ≡ Ok (Show how form)

-- what `show` is asked for
abbrev pub AsksShow : OptionTexts → Result Action OptionName → Type 0
AsksShow texts = Then (ShownFormIs texts) (IsShow (form_of_flag texts.hex))

-- messages that are said so, in this form
abbrev pub IsMake : SaidForm → MadeForm → Result Action OptionName → Type 0
IsMake said form read = read ≡ Ok (Make said form)

-- what `make` is asked for
abbrev pub AsksMake : OptionTexts → Result Action OptionName → Type 0
AsksMake texts = Then (MadeFormIs texts) (IsMake (said_by texts.json))

-- an audit of the book in this file, by the events of this one
abbrev pub IsAudit : OptionTexts → String Global → Result Action OptionName → Type 0
IsAudit texts path (Ok (actions.Audit asked)) =
    (asked.path ≡ path) × (option_map string_bytes asked.events ≡ texts.events)
IsAudit texts path other = ⊥

-- what `audit` is asked for
abbrev pub AsksAudit : OptionTexts → Result Action OptionName → Type 0
AsksAudit texts = Then (FileIs texts) (IsAudit texts)

-- ---- what the arguments ask for

-- the command has this name, and asks for this by its options
abbrev pub Names
    : Text → (OptionTexts → Result Action OptionName → Type 0) → Text × List Row
    → Result Action OptionName → Type 0
Names name Asked command asked = (command.0 ≡ name) × Asked (option_texts command.1) asked

-- what a command is asked for, by its name and its options as clap's rules read them
abbrev pub Asks : Option (Text × List Row) → Result Action OptionName → Type 0
Asks None asked = ⊥
Asks (Some command) asked =
    Names (codes "init") AsksInit command asked
    ⊎ Names (codes "once") AsksOnce command asked
    ⊎ Names (codes "replay") AsksReplay command asked
    ⊎ Names (codes "clearing") AsksClearing command asked
    ⊎ Names (codes "report") AsksReport command asked
    ⊎ Names (codes "holds") AsksHolds command asked
    ⊎ Names (codes "show") AsksShow command asked
    ⊎ Names (codes "listen") AsksListen command asked
    ⊎ Names (codes "migrate") AsksMigrate command asked
    ⊎ Names (codes "pending") AsksPending command asked
    ⊎ Names (codes "tell") AsksTell command asked
    ⊎ Names (codes "status") AsksStatus command asked
    ⊎ Names (codes "make") AsksMake command asked
    ⊎ Names (codes "ask") AsksAsk command asked
    ⊎ Names (codes "explain") AsksExplain command asked
    ⊎ Names (codes "list") AsksList command asked
    ⊎ Names (codes "statement") AsksStatement command asked
    ⊎ Names (codes "find") AsksFind command asked
    ⊎ Names (codes "ranges") AsksRanges command asked
    ⊎ Names (codes "page") AsksPage command asked
    ⊎ Names (codes "audit") AsksAudit command asked

-- nothing is wrong with the words by clap's rules, and they ask for this
abbrev pub AsksFor : List Text → Result Action OptionName → Type 0
AsksFor words asked = (fault_of program words ≡ []) × Asks (subcommand_of program words) asked

-- there was no memory for the words
abbrev pub IsNoMemory : UsageFault → Type 0
IsNoMemory (Words error) = kind_of error ≡ OutOfMemory
IsNoMemory (BadValue name) = ⊥

-- this is read, or there was no memory for it
abbrev pub Reads
    : {A : Type 0} → (Result A OptionName → Type 0) → Result A UsageFault → Type 0
Reads Asked (Ok value) = Asked (Ok value)
Reads Asked (Err (BadValue name)) = Asked (Err name)
Reads Asked (Err (Words error)) = IsNoMemory (Words error)

-- What reading the arguments gives: what they ask for, an option whose value is out of form, or
-- an error that clap's rules give for these words, or want of memory.
abbrev pub ReadsArguments : List Text → Result Action UsageFault → Type 0
ReadsArguments words (Ok action) = AsksFor words (Ok action)
ReadsArguments words (Err (BadValue name)) = AsksFor words (Err name)
ReadsArguments words (Err (Words error)) = HasKind (fault_of program words) error
