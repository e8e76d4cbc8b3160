-- What codes mean, in the words of ISO 8583:1987.
use Rattle.std.specs.Prelude.{ℕ, ◌==◌, ◌&&◌, List, [], ◌∷◌, length, take, codes}
use Rattle.std.specs.Prelude.{Option, Some, None, if◌then◌else◌}
use Rattle.std.specs.List.{list_all}
use Rattle.std.specs.Char.{is_ascii_digit}
use Rattle.std.specs.Str.Parse.{digits_value}
use Rattle.acq_show.specs.Names.{name_in}

-- the first two digits of the processing code, element 3: the transactions that the host serves
abbrev pub transactions : List (ℕ × List ℕ)
transactions = (0, codes "purchase") ∷ (20, codes "return") ∷ []

-- the response code, element 39
abbrev pub responses : List (ℕ × List ℕ)
responses =
    (0, codes "approved")
    ∷ (1, codes "refer to card issuer")
    ∷ (3, codes "invalid merchant")
    ∷ (4, codes "pick up the card")
    ∷ (5, codes "do not honour")
    ∷ (12, codes "invalid transaction")
    ∷ (13, codes "invalid amount")
    ∷ (14, codes "invalid card number")
    ∷ (15, codes "no such issuer")
    ∷ (21, codes "no action taken")
    ∷ (25, codes "unable to locate record")
    ∷ (30, codes "format error")
    ∷ (41, codes "lost card")
    ∷ (43, codes "stolen card")
    ∷ (51, codes "not sufficient funds")
    ∷ (54, codes "expired card")
    ∷ (55, codes "incorrect PIN")
    ∷ (57, codes "transaction not permitted to cardholder")
    ∷ (58, codes "transaction not permitted to terminal")
    ∷ (61, codes "exceeds withdrawal amount limit")
    ∷ (62, codes "restricted card")
    ∷ (65, codes "exceeds withdrawal frequency limit")
    ∷ (68, codes "response received too late")
    ∷ (91, codes "issuer is inoperative")
    ∷ (94, codes "duplicate transmission")
    ∷ (95, codes "reconcile error")
    ∷ (96, codes "system malfunction")
    ∷ []

-- the settlement code, element 66
abbrev pub settlements : List (ℕ × List ℕ)
settlements = (1, codes "in balance") ∷ (2, codes "out of balance") ∷ []

-- the network management information code, element 70
abbrev pub network_codes : List (ℕ × List ℕ)
network_codes = (1, codes "sign-on") ∷ (2, codes "sign-off") ∷ (301, codes "echo test") ∷ []

-- the number that a code of so many digits spells
abbrev pub code_number : ℕ → List ℕ → Option ℕ
code_number size code =
    if length code == size && list_all is_ascii_digit code then Some (digits_value 10 code)
    else None

-- what a table has for a number, or nothing
abbrev pub word_for : List (ℕ × List ℕ) → Option ℕ → List ℕ
word_for table None = []
word_for table (Some number) = name_in table number

-- what the content of element n means, or nothing
abbrev pub meaning : ℕ → List ℕ → List ℕ
meaning n content =
    if n == 3 then word_for transactions (code_number 2 (take 2 content))
    else if n == 39 then word_for responses (code_number 2 content)
    else if n == 66 then word_for settlements (code_number 1 content)
    else if n == 70 then word_for network_codes (code_number 3 content)
    else []
