-- What the head of a request asks for (own profile), where a head is one of HTTP/1.x (RFC 9112).
use Rattle.std.specs.Prelude.{◌≡◌, ◌⊎◌, ◌<◌, ◌≤◌, ◌==◌, ◌&&◌, ◌||◌, ℕ, Bool, true, false, not}
use Rattle.std.specs.Prelude.{List, [], ◌∷◌, length, take, drop, codes}
use Rattle.std.specs.Prelude.{Option, Some, None, if◌then◌else◌}
use Rattle.std.specs.Char.{is_ascii_digit}
use Rattle.std.specs.List.{list_all, list_any}
use Rattle.std.specs.Str.{bytes_eq, str_eq_ignore_ascii_case}
use Rattle.httparse.specs.Ascii.{colon}
use Rattle.httparse.specs.Grammar.{Field, field_value}
use Rattle.httparse.specs.Grammar.{RequestHead, ReadsRequest, HasNoRequest, NeverHasRequest}
use Rattle.httparse.specs.Grammar.{MayBecomeRequest}
use Rattle.httparse.specs.Spans.{RequestExceeds}
use Rattle.acq_page.specs.declared.asked.Asked.{Asked}
use Rattle.acq_page.specs.declared.asked.Asked.TheVariants.{Page, Metrics, Missing, OtherMethod}
use Rattle.acq_page.specs.declared.asked.Asked.TheVariants.{OtherHost, Bad, TooLong}
use Rattle.acq_page.specs.declared.request.Request.{Request}

abbrev pub request : Asked → Bool → Request
request asked with_body = record { asked = asked; with_body = with_body }

-- a port, or none: a colon and digits (RFC 3986, section 3.2.3), or nothing
abbrev pub is_port : List ℕ → Bool
is_port [] = true
is_port (byte ∷ digits) = byte == colon && list_all is_ascii_digit digits

-- this name in any case, and behind it a port, or none
abbrev pub is_named : List ℕ → List ℕ → Bool
is_named name value =
    str_eq_ignore_ascii_case (take (length name) value) name
    && is_port (drop (length name) value)

-- how a machine names itself
abbrev pub is_this_machine : List ℕ → Bool
is_this_machine value =
    is_named (codes "127.0.0.1") value || is_named (codes "localhost") value
    || is_named (codes "[::1]") value

-- a Host field that names another host (RFC 9110, section 7.2)
abbrev pub is_other_host : List ℕ → List ℕ → Bool
is_other_host name value =
    str_eq_ignore_ascii_case name (codes "Host") && not (is_this_machine value)

-- one of these fields is such
abbrev pub name_other_host : List Field → Bool
name_other_host fields =
    list_any (λ field. is_other_host field.name (field_value field)) fields

-- another host, if the head is for one; else the page, the metrics, or what isn't there
abbrev pub named_by : List ℕ → Bool → Asked
named_by target for_other =
    if for_other then OtherHost
    else if bytes_eq target (codes "/") then Page
    else if bytes_eq target (codes "/metrics") then Metrics
    else Missing

-- a head with this method and this target, for another host or not: its method is looked at first,
-- then its host, then its target. What is asked for with HEAD comes without a body
abbrev pub asked_of : List ℕ → List ℕ → Bool → Request
asked_of method target for_other =
    if bytes_eq method (codes "GET") then request (named_by target for_other) true
    else if bytes_eq method (codes "HEAD") then request (named_by target for_other) false
    else request OtherMethod true

-- the most bytes of a head, and the most of its fields
abbrev pub longest_head : ℕ
longest_head = 8192

abbrev pub most_fields : ℕ
most_fields = 64

-- a head stands in front, and asks for this
abbrev pub AsksFor : List ℕ → Request → Type 0
AsksFor bytes asked =
    (head : RequestHead) × (rest : List ℕ) × ReadsRequest bytes head rest
    × (asked ≡ asked_of head.method head.target (name_other_host head.fields))

-- no head is whole in so many bytes, or one has more fields
abbrev pub IsTooLong : List ℕ → Type 0
IsTooLong bytes =
    (HasNoRequest bytes × (longest_head ≤ length bytes)) ⊎ RequestExceeds most_fields bytes

abbrev pub IsAskedSo : List ℕ → Request → Asked → Type 0
IsAskedSo bytes asked Bad = NeverHasRequest bytes × (asked.with_body ≡ true)
IsAskedSo bytes asked TooLong = IsTooLong bytes × (asked.with_body ≡ true)
IsAskedSo bytes asked other = AsksFor bytes asked

-- What bytes ask: nothing yet if more of them may make a head; what a head asks for in front; or
-- nothing, since no head stands there, or none of that length.
abbrev pub IsAskedBy : List ℕ → Option Request → Type 0
IsAskedBy bytes None =
    HasNoRequest bytes × MayBecomeRequest bytes × (length bytes < longest_head)
IsAskedBy bytes (Some asked) = IsAskedSo bytes asked asked.asked
