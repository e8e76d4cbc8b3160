-- Totals in words.
use Rattle.std.specs.Prelude.{ℕ, ◌+◌, ◌-◌, ◌==◌, nat_lt, List, [], ◌∷◌, ◌++◌, flat_map, codes}
use Rattle.std.specs.Prelude.{if◌then◌else◌}
use Rattle.std.specs.Fmt.{decimal}
use Rattle.day_totals.specs.declared.leg_total.LegTotal.{LegTotal}
use Rattle.day_totals.specs.Totals.{DayTotals}

-- texts, one after another
abbrev pub joined : List (List ℕ) → List ℕ
joined texts = flat_map (λ text. text) texts

-- a text behind another, with a comma between them if there is one
abbrev pub listed : List ℕ → List ℕ → List ℕ
listed [] text = text
listed (b ∷ before) text = (b ∷ before) ++ (codes ", " ++ text)

-- a leg, behind what is listed already: its name, its amount and how many postings it has, if any
abbrev pub with_leg : List ℕ → List ℕ → LegTotal → List ℕ
with_leg before name total =
    if total.count == 0 then before
    else listed before (joined (name ∷ codes " " ∷ decimal total.amount ∷ codes " ("
    ∷ decimal total.count ∷ codes ")" ∷ []))

-- the legs that have postings
abbrev pub legs_listed : DayTotals → List ℕ
legs_listed t =
    with_leg (with_leg (with_leg (with_leg [] (codes "credits") t.credits)
    (codes "credit reversals") t.credit_reversals) (codes "debits") t.debits)
    (codes "debit reversals") t.debit_reversals

abbrev pub or_nothing : List ℕ → List ℕ
or_nothing [] = codes "nothing"
or_nothing (b ∷ text) = b ∷ text

abbrev pub legs_text : DayTotals → List ℕ
legs_text t = or_nothing (legs_listed t)

-- what is due to the merchant, and to the acquirer
abbrev pub due_to_merchant : DayTotals → ℕ
due_to_merchant t = t.debits.amount + t.credit_reversals.amount

abbrev pub due_to_acquirer : DayTotals → ℕ
due_to_acquirer t = t.credits.amount + t.debit_reversals.amount

-- who owes whom how much, with a word for the merchants and a verb for what they do
abbrev pub owed_text : List ℕ → List ℕ → DayTotals → List ℕ
owed_text merchants owe t =
    if due_to_merchant t == due_to_acquirer t then codes "  nothing is owed\n"
    else if nat_lt (due_to_acquirer t) (due_to_merchant t)
    then joined (codes "  the acquirer owes the " ∷ merchants ∷ codes " "
    ∷ decimal (due_to_merchant t - due_to_acquirer t) ∷ codes "\n" ∷ [])
    else joined (codes "  the " ∷ merchants ∷ owe
    ∷ decimal (due_to_acquirer t - due_to_merchant t) ∷ codes "\n" ∷ [])
