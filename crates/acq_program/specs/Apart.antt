-- Paths that one file can't have (own profile).
use Rattle.std.specs.Prelude.{Bool, false, ◌||◌, ◌&&◌, nat_eq, length, drop, codes, Option}
use Rattle.std.specs.Prelude.{Some, None, option_map, is_some, String, string_bytes}
use Rattle.std.specs.Prelude.{if◌then◌else◌}
use Rattle.std.specs.List.{starts_with}
use Rattle.std.specs.Str.{bytes_eq}
use Rattle.std.specs.declared.alloc.Global.{Global}
use Rattle.clap.specs.Words.{Text}
use Rattle.acq_faults.specs.declared.listen_options.ListenOptions.{ListenOptions}
use Rattle.acq_program.specs.declared.option_name.OptionName.{OptionName}
use Rattle.acq_program.specs.declared.option_name.OptionName.TheVariants as option

-- a path, where there is one
abbrev pub path_of : Option (String Global) → Option Text
path_of path = option_map string_bytes path

-- both paths are there, and alike
abbrev pub are_alike : Option Text → Option Text → Bool
are_alike (Some one) (Some other) = bytes_eq one other
are_alike _ _ = false

-- a path is there, and is that of the book, or of the log that stands beside it
abbrev pub is_of_book : Text → Option Text → Bool
is_of_book book None = false
is_of_book book (Some path) =
    bytes_eq path book
    || (starts_with nat_eq path book && bytes_eq (drop (length book) path) (codes "-wal"))

-- the first option that names the file of another one, or a file of the book
abbrev pub clash_among
    : (book : Text) (log control issuers gateway : Option Text) → Option OptionName
clash_among book log control issuers gateway =
    if is_of_book book gateway || are_alike gateway log || are_alike gateway control
    then Some option.Gateway
    else if is_of_book book log || are_alike log control || are_alike log issuers
    then Some option.Log
    else if is_of_book book control || are_alike control issuers then Some option.Control
    else if is_of_book book issuers then Some option.Issuers
    else None

-- issuers are to answer by a file and over a gateway
abbrev pub asks_twice : ListenOptions → Bool
asks_twice asked = is_some asked.issuers && is_some asked.gateway

abbrev pub clash_of : ListenOptions → Option OptionName
clash_of asked =
    if asks_twice asked then Some option.Gateway
    else clash_among (string_bytes asked.path) (path_of asked.log) (path_of asked.control)
    (path_of asked.issuers) (path_of asked.gateway)
