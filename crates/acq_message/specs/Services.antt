-- The requests that are served (types: ISO 8583:1987, message type identifier; what is needed and
-- echoed: own profile).
use Rattle.std.specs.Prelude.{ℕ, Bool, true, false, List, [], ◌∷◌, Option, Some, None}
use Rattle.std.specs.Prelude.{if◌then◌else◌, codes}
use Rattle.std.specs.Str.{bytes_eq}
use Rattle.acq_message.specs.declared.service.Service.{Service}
use Rattle.acq_message.specs.declared.service.Service.TheVariants.{Authorization, Financial}
use Rattle.acq_message.specs.declared.service.Service.TheVariants.{Completion, Reversal}
use Rattle.acq_message.specs.declared.service.Service.TheVariants.{ReversalAdvice, Reconciliation}
use Rattle.acq_message.specs.declared.service.Service.TheVariants.{NetworkManagement}

-- the first three digits of a request's type
abbrev pub digits_of : Service → List ℕ
digits_of Authorization = codes "010"
digits_of Financial = codes "020"
digits_of Completion = codes "022"
digits_of Reversal = codes "040"
digits_of ReversalAdvice = codes "042"
digits_of Reconciliation = codes "050"
digits_of NetworkManagement = codes "080"

-- the same digits of type
abbrev pub same_service : Service → Service → Bool
same_service a b = bytes_eq (digits_of a) (digits_of b)

-- each type that is served, and its service; a type that ends in 1 is a repeat
abbrev pub served : List (List ℕ × Service)
served =
    (codes "0100", Authorization) ∷ (codes "0101", Authorization)
    ∷ (codes "0200", Financial) ∷ (codes "0201", Financial)
    ∷ (codes "0220", Completion) ∷ (codes "0221", Completion)
    ∷ (codes "0400", Reversal) ∷ (codes "0401", Reversal)
    ∷ (codes "0420", ReversalAdvice) ∷ (codes "0421", ReversalAdvice)
    ∷ (codes "0500", Reconciliation) ∷ (codes "0501", Reconciliation)
    ∷ (codes "0800", NetworkManagement) ∷ (codes "0801", NetworkManagement) ∷ []

-- the service of a type in a table
abbrev pub service_in : List (List ℕ × Service) → List ℕ → Option Service
service_in [] kind = None
service_in (row ∷ rows) kind = if bytes_eq kind row.0 then Some row.1 else service_in rows kind

-- the service of a message type
abbrev pub service_of : List ℕ → Option Service
service_of kind = service_in served kind

-- the type of a reply
abbrev pub reply_kind : Service → List ℕ
reply_kind Authorization = codes "0110"
reply_kind Financial = codes "0210"
reply_kind Completion = codes "0230"
reply_kind Reversal = codes "0410"
reply_kind ReversalAdvice = codes "0430"
reply_kind Reconciliation = codes "0510"
reply_kind NetworkManagement = codes "0810"

-- the elements that a request needs, but for its card
abbrev pub needed : Service → List ℕ
needed Authorization = 3 ∷ 4 ∷ 7 ∷ 11 ∷ 41 ∷ 42 ∷ 49 ∷ []
needed Financial = 3 ∷ 4 ∷ 7 ∷ 11 ∷ 41 ∷ 42 ∷ 49 ∷ []
needed Completion = 3 ∷ 4 ∷ 7 ∷ 11 ∷ 37 ∷ 41 ∷ 42 ∷ 49 ∷ []
needed Reversal = 4 ∷ 7 ∷ 11 ∷ 41 ∷ 42 ∷ 90 ∷ []
needed ReversalAdvice = 4 ∷ 7 ∷ 11 ∷ 41 ∷ 42 ∷ 90 ∷ []
needed Reconciliation =
    7 ∷ 11 ∷ 41 ∷ 42 ∷ 74 ∷ 75 ∷ 76 ∷ 77 ∷ 86 ∷ 87 ∷ 88 ∷ 89 ∷ 97 ∷ []
needed NetworkManagement = 7 ∷ 11 ∷ 70 ∷ []

-- of these it needs one more: a card, in element 2 or 35
abbrev pub needed_card : Service → List ℕ
needed_card Authorization = 2 ∷ 35 ∷ []
needed_card Financial = 2 ∷ 35 ∷ []
needed_card service = []

-- the elements that a reply echoes where the request had them
abbrev pub echoed : Service → List ℕ
echoed Completion = 2 ∷ 3 ∷ 4 ∷ 7 ∷ 11 ∷ 12 ∷ 13 ∷ 37 ∷ 41 ∷ 42 ∷ 49 ∷ []
echoed NetworkManagement = 2 ∷ 3 ∷ 4 ∷ 7 ∷ 11 ∷ 12 ∷ 13 ∷ 41 ∷ 42 ∷ 49 ∷ 70 ∷ []
echoed service = 2 ∷ 3 ∷ 4 ∷ 7 ∷ 11 ∷ 12 ∷ 13 ∷ 41 ∷ 42 ∷ 49 ∷ []

-- a request that names its terminal and merchant: all but those of network management
abbrev pub is_recordable : Service → Bool
is_recordable NetworkManagement = false
is_recordable service = true

-- a request that names an original, in element 90
abbrev pub names_original : Service → Bool
names_original Reversal = true
names_original ReversalAdvice = true
names_original service = false
