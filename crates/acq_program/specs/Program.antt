-- The program, as the crate `clap` reads its arguments: its commands and their options.
use Rattle.std.specs.Prelude.{true, codes, Some}
use Rattle.clap.specs.Words.{App, Rule, Text, new_app, new_rule, with_rule, with_subcommand}
use Rattle.clap.specs.declared.builder.action.ArgAction.{ArgAction}
use Rattle.clap.specs.declared.builder.action.ArgAction.TheVariants.{Append, Set, SetTrue}

-- an option with a value, `--name VALUE`, and what a use of it does: `Set` gives the value, and
-- `Append` gives it behind those of earlier uses
abbrev pub option_with_value : Text → ArgAction → Rule
option_with_value name action =
    record (new_rule name) { long = Some name; action = Some action; value_names = 1 }

-- such an option, which may be there once
abbrev pub option : Text → Rule
option name = option_with_value name Set

-- such an option, which has to be there
abbrev pub required : Text → Rule
required name = record (option name) { required = true }

-- a value by its place alone, `VALUE`, which has to be there
abbrev pub place : Text → Rule
place name = record (new_rule name) { action = Some Set; value_names = 1; required = true }

-- an option without a value, `--name`
abbrev pub flag : Text → Rule
flag name = record (new_rule name) { long = Some name; action = Some SetTrue }

-- `init --db FILE --limit N --day DAY [--sums]`
abbrev pub init : App
init =
    with_rule (with_rule (with_rule (with_rule (new_app (codes "init"))
    (required (codes "db"))) (required (codes "limit"))) (required (codes "day")))
    (flag (codes "sums"))

-- `migrate --db FILE`
abbrev pub migrate : App
migrate = with_rule (new_app (codes "migrate")) (required (codes "db"))

-- `once [--db FILE] [--issuers FILE] [--at MOMENT]`
abbrev pub once : App
once =
    with_rule (with_rule (with_rule (new_app (codes "once"))
    (option (codes "db"))) (option (codes "issuers"))) (option (codes "at"))

-- `listen --db FILE --port P [--address ADDRESS] [--count N] [--issuers FILE] [--gateway PATH]
-- [--at MOMENT] [--idle SECONDS] [--frame-within SECONDS] [--stop-within SECONDS]
-- [--answer-within SECONDS] [--gateway-within SECONDS] [--end-waiting] [--together M]
-- [--from-one-address N] [--proxy-protocol] [--control PATH] [--log FILE] [--log-bytes N]`
abbrev pub listen : App
listen =
    with_rule (with_rule (with_rule (with_rule (with_rule (with_rule (with_rule (with_rule
    (with_rule (with_rule (with_rule (with_rule (with_rule (with_rule (with_rule (with_rule
    (with_rule (with_rule (with_rule (new_app (codes "listen"))
    (required (codes "db"))) (required (codes "port"))) (option (codes "address")))
    (option (codes "count"))) (option (codes "issuers"))) (option (codes "gateway")))
    (option (codes "at"))) (option (codes "idle"))) (option (codes "frame-within")))
    (option (codes "stop-within"))) (option (codes "answer-within")))
    (option (codes "gateway-within"))) (flag (codes "end-waiting"))) (option (codes "together")))
    (option (codes "from-one-address"))) (flag (codes "proxy-protocol")))
    (option (codes "control"))) (option (codes "log"))) (option (codes "log-bytes"))

-- `replay [--db FILE] [--limit N] [--day DAY] [--group N] [--clearing DAY].. [--report DAY]..`
abbrev pub replay : App
replay =
    with_rule (with_rule (with_rule (with_rule (with_rule (with_rule (new_app (codes "replay"))
    (option (codes "db"))) (option (codes "limit"))) (option (codes "day")))
    (option (codes "group"))) (option_with_value (codes "clearing") Append))
    (option_with_value (codes "report") Append)

-- `clearing --db FILE --day DAY`
abbrev pub clearing : App
clearing =
    with_rule (with_rule (new_app (codes "clearing")) (required (codes "db")))
    (required (codes "day"))

-- `report --db FILE --day DAY [--csv]`
abbrev pub report : App
report =
    with_rule (with_rule (with_rule (new_app (codes "report"))
    (required (codes "db"))) (required (codes "day"))) (flag (codes "csv"))

-- `statement --db FILE [--merchant MERCHANT].. --day DAY [--to DAY] [--csv]`
abbrev pub statement : App
statement =
    with_rule (with_rule (with_rule (with_rule (with_rule (new_app (codes "statement"))
    (required (codes "db"))) (option_with_value (codes "merchant") Append))
    (required (codes "day"))) (option (codes "to"))) (flag (codes "csv"))

-- `find --db FILE --merchant MERCHANT`, and `--reference REFERENCE`, or `--terminal TERMINAL
-- --trace TRACE`, or `--card-ends DIGITS --day DAY`
abbrev pub find : App
find =
    with_rule (with_rule (with_rule (with_rule (with_rule (with_rule (with_rule
    (new_app (codes "find"))
    (required (codes "db"))) (required (codes "merchant"))) (option (codes "reference")))
    (option (codes "terminal"))) (option (codes "trace"))) (option (codes "card-ends")))
    (option (codes "day"))

-- `holds --db FILE --merchant MERCHANT --at MOMENT`
abbrev pub holds : App
holds =
    with_rule (with_rule (with_rule (new_app (codes "holds"))
    (required (codes "db"))) (required (codes "merchant"))) (required (codes "at"))

-- `list --db FILE WHAT`
abbrev pub list : App
list = with_rule (with_rule (new_app (codes "list")) (place (codes "what"))) (required (codes "db"))

-- `ranges`, `--db FILE` or `--control PATH [--within SECONDS]`, `--set LIST [--dry-run]`
abbrev pub ranges : App
ranges =
    with_rule (with_rule (with_rule (with_rule (with_rule (new_app (codes "ranges"))
    (option (codes "db"))) (option (codes "control"))) (option (codes "within")))
    (required (codes "set"))) (flag (codes "dry-run"))

-- `pending --db FILE [--day DAY] [--issuers FILE] [--at MOMENT]`
abbrev pub pending : App
pending =
    with_rule (with_rule (with_rule (with_rule (new_app (codes "pending"))
    (required (codes "db"))) (option (codes "day"))) (option (codes "issuers")))
    (option (codes "at"))

-- `show [--hex] [--json] [--whole]`
abbrev pub show : App
show =
    with_rule (with_rule (with_rule (new_app (codes "show"))
    (flag (codes "hex"))) (flag (codes "json"))) (flag (codes "whole"))

-- `make [--hex] [--event MOMENT] [--json]`
abbrev pub make : App
make =
    with_rule (with_rule (with_rule (new_app (codes "make"))
    (flag (codes "hex"))) (option (codes "event"))) (flag (codes "json"))

-- `ask --port P [--address ADDRESS] [--within SECONDS] [--repeat N]`
abbrev pub ask : App
ask =
    with_rule (with_rule (with_rule (with_rule (new_app (codes "ask"))
    (required (codes "port"))) (option (codes "address"))) (option (codes "within")))
    (option (codes "repeat"))

-- `explain [--db FILE] [--events FILE] [--limit N] [--day DAY] [--hex] [--at MOMENT]`
abbrev pub explain : App
explain =
    with_rule (with_rule (with_rule (with_rule (with_rule (with_rule (new_app (codes "explain"))
    (option (codes "db"))) (option (codes "events"))) (option (codes "limit")))
    (option (codes "day"))) (flag (codes "hex"))) (option (codes "at"))

-- `tell [--within SECONDS] PATH`
abbrev pub tell : App
tell =
    with_rule (with_rule (new_app (codes "tell")) (place (codes "path"))) (option (codes "within"))

-- `status --db FILE`
abbrev pub status : App
status = with_rule (new_app (codes "status")) (required (codes "db"))

-- `audit --db FILE [--events FILE]`
abbrev pub audit : App
audit =
    with_rule (with_rule (new_app (codes "audit"))
    (required (codes "db"))) (option (codes "events"))

-- `page --control PATH --port P`
abbrev pub page : App
page =
    with_rule (with_rule (new_app (codes "page"))
    (required (codes "control"))) (required (codes "port"))

-- the program: it has a version, and one of its commands must be named
abbrev pub acqd : App
acqd =
    record (new_app (codes "acqd")) {
      top = record (new_app (codes "acqd")).top { has_version = true; subcommand_required = true };
    }

-- the program and its commands
abbrev pub program : App
program =
    with_subcommand (with_subcommand (with_subcommand (with_subcommand (with_subcommand
    (with_subcommand (with_subcommand (with_subcommand (with_subcommand (with_subcommand
    (with_subcommand (with_subcommand (with_subcommand (with_subcommand (with_subcommand
    (with_subcommand (with_subcommand (with_subcommand (with_subcommand (with_subcommand
    (with_subcommand acqd
    init.top) migrate.top) once.top) listen.top) replay.top)
    clearing.top) report.top) statement.top) find.top) holds.top) list.top)
    ranges.top) pending.top) show.top) make.top) ask.top) explain.top) tell.top) status.top)
    audit.top) page.top
