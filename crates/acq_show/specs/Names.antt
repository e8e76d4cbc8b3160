-- The names of message types and of elements, in the words of ISO 8583:1987.
use Rattle.std.specs.Prelude.{ℕ, ◌==◌, Bool, ◌&&◌, ◌||◌, not, List, [], ◌∷◌, length, codes}
use Rattle.std.specs.Prelude.{if◌then◌else◌}

-- what a table has for a number, or nothing
abbrev pub name_in : List (ℕ × List ℕ) → ℕ → List ℕ
name_in [] n = []
name_in (row ∷ rows) n = if n == row.0 then row.1 else name_in rows n

-- ---- types: four digits, of a version, a class, a function and an origin

abbrev pub classes : List (ℕ × List ℕ)
classes =
    (49, codes "authorization") ∷ (50, codes "financial") ∷ (52, codes "reversal")
    ∷ (53, codes "reconciliation") ∷ (56, codes "network management") ∷ []

-- an advice of the financial class is a completion here
abbrev pub class_name : ℕ → ℕ → List ℕ
class_name class function =
    if class == 50 && (function == 50 || function == 51) then codes "completion"
    else name_in classes class

abbrev pub function_name : ℕ → List ℕ
function_name function =
    name_in ((48, codes "request") ∷ (49, codes "response") ∷ (50, codes "advice")
    ∷ (51, codes "advice response") ∷ []) function

abbrev pub origin_name : ℕ → List ℕ
origin_name origin = if origin == 49 then codes ", repeat" else []

abbrev pub is_empty : List ℕ → Bool
is_empty text = length text == 0

-- each digit has a name
abbrev pub is_named : ℕ → ℕ → ℕ → ℕ → Bool
is_named version class function origin =
    version == 48 && not (is_empty (class_name class function))
    && not (is_empty (function_name function)) && (origin == 48 || origin == 49)

-- ---- elements

abbrev pub element_names : List (ℕ × List ℕ)
element_names =
    (2, codes "card number")
    ∷ (3, codes "processing code")
    ∷ (4, codes "amount")
    ∷ (7, codes "transmission date and time")
    ∷ (11, codes "trace number")
    ∷ (12, codes "local time")
    ∷ (13, codes "local date")
    ∷ (14, codes "expiry")
    ∷ (15, codes "settlement date")
    ∷ (18, codes "merchant type")
    ∷ (19, codes "acquiring country")
    ∷ (22, codes "entry mode")
    ∷ (23, codes "card sequence number")
    ∷ (24, codes "network international identifier")
    ∷ (25, codes "condition code")
    ∷ (26, codes "PIN capture code")
    ∷ (32, codes "acquirer")
    ∷ (33, codes "forwarder")
    ∷ (35, codes "track 2")
    ∷ (37, codes "retrieval reference")
    ∷ (38, codes "authorization id")
    ∷ (39, codes "response code")
    ∷ (41, codes "terminal")
    ∷ (42, codes "merchant")
    ∷ (43, codes "card acceptor name and place")
    ∷ (45, codes "track 1")
    ∷ (48, codes "additional data")
    ∷ (49, codes "currency")
    ∷ (50, codes "settlement currency")
    ∷ (52, codes "PIN block")
    ∷ (53, codes "security control")
    ∷ (54, codes "additional amounts")
    ∷ (55, codes "chip data")
    ∷ (56, codes "reserved")
    ∷ (57, codes "reserved")
    ∷ (58, codes "reserved")
    ∷ (59, codes "reserved")
    ∷ (60, codes "private")
    ∷ (61, codes "private")
    ∷ (62, codes "private")
    ∷ (63, codes "private")
    ∷ (64, codes "message authentication code")
    ∷ (66, codes "settlement code")
    ∷ (70, codes "network management code")
    ∷ (74, codes "number of credits")
    ∷ (75, codes "number of credit reversals")
    ∷ (76, codes "number of debits")
    ∷ (77, codes "number of debit reversals")
    ∷ (86, codes "amount of credits")
    ∷ (87, codes "amount of credit reversals")
    ∷ (88, codes "amount of debits")
    ∷ (89, codes "amount of debit reversals")
    ∷ (90, codes "original data elements")
    ∷ (95, codes "replacement amounts")
    ∷ (97, codes "net reconciliation amount")
    ∷ (128, codes "message authentication code")
    ∷ []

abbrev pub element_name : ℕ → List ℕ
element_name n = name_in element_names n
