-- For which elements the host replies 30 to a request, by those that are there alone (own profile):
-- what the contents of elements 2, 35 and 95 may do to it isn't told.
use Rattle.std.specs.Prelude.{ℕ, Bool, true, false, not, List, [], ◌++◌, codes, find}
use Rattle.std.specs.Prelude.{Option, Some, None}
use Rattle.std.specs.Fmt.{decimal}
use Rattle.iso_codec.specs.Message.{IsoMessage}
use Rattle.acq_message.specs.declared.service.Service.{Service}
use Rattle.acq_message.specs.Services.{needed, needed_card, service_of}
use Rattle.acq_message.specs.Elements.{has}
use Rattle.acq_message.specs.FirstCheck.{has_one_of, unverifiable}
use Rattle.acq_show.specs.Names.{element_name}

-- the first of these elements that isn't there
abbrev pub first_missing : IsoMessage → List ℕ → Option ℕ
first_missing m numbers = find (λ n. not (has m n)) numbers

-- the first that is there and can't be checked
abbrev pub first_unverifiable : IsoMessage → Option ℕ
first_unverifiable m = find (has m) unverifiable

-- a line that says why
abbrev pub remark : List ℕ → List ℕ
remark words = codes "the host replies 30: " ++ words ++ codes "\n"

-- an element, by its number and its name
unfoldable pub element_words : ℕ → List ℕ
element_words n = codes "element " ++ decimal n ++ codes ", " ++ element_name n ++ codes ", "

abbrev pub element_remark : ℕ → List ℕ → List ℕ
element_remark n words = remark (element_words n ++ words)

-- an element is missing; or the card is; or one is there that can't be checked; or nothing is told
abbrev pub first_remark : (missing : Option ℕ) (has_card : Bool) (bad : Option ℕ) → List ℕ
first_remark (Some n) has_card bad = element_remark n (codes "is missing")
first_remark None false bad = remark (codes "neither element 2 nor 35 is there")
first_remark None true (Some n) = element_remark n (codes "is there, and can't be checked")
first_remark None true None = []

-- of a request of a service
abbrev pub remark_on : Service → IsoMessage → List ℕ
remark_on service m =
    first_remark (first_missing m (needed service)) (has_one_of m (needed_card service))
    (first_unverifiable m)

-- of a message, if its type is served
abbrev pub remark_by : Option Service → IsoMessage → List ℕ
remark_by None m = []
remark_by (Some service) m = remark_on service m

abbrev pub message_remark : IsoMessage → List ℕ
message_remark m = remark_by (service_of m.kind) m
