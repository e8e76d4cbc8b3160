-- What a line asks that has requests found (own profile): of a merchant, the request with a
-- reference, those of a terminal with a trace number, or those of a day whose cards end in four
-- digits.
use Rattle.std.specs.Prelude.{◌≡◌, ◌==◌, ◌&&◌, ◌+◌, ℕ, nat_eq, Bool, false, List, codes, drop}
use Rattle.std.specs.Prelude.{take, length, Option, Some, None, option_map, true, if◌then◌else◌}
use Rattle.std.specs.List.{list_all, position, starts_with}
use Rattle.std.specs.Char.{is_ascii_digit}
use Rattle.std.specs.Str.{IsUtf8}
use Rattle.day_totals.specs.Day.{IsNoDateText, date_text_of}
use Rattle.acq_message.specs.Names.{is_trace}
use Rattle.acq_out.specs.Fields.{merchant_of_text, number_of_text, terminal_of_text}
use Rattle.acq_inquiry.specs.declared.inquiry.Inquiry.{Inquiry}
use Rattle.acq_inquiry.specs.declared.inquiry.Inquiry.TheVariants as inquiry
use Rattle.acq_control.specs.declared.sought.Sought.{Sought}

-- where the first comma stands
abbrev pub comma_in : List ℕ → Option ℕ
comma_in text = position (λ byte. byte == 44) text

-- ---- by a reference

abbrev pub by_reference : List ℕ → Option Inquiry
by_reference text = option_map inquiry.Reference (number_of_text text)

-- ---- by a terminal and a trace number

abbrev pub trace_of_text : List ℕ → Option (List ℕ)
trace_of_text text = if is_trace text then Some text else None

abbrev pub by_both : Option (List ℕ) → Option (List ℕ) → Option Inquiry
by_both (Some terminal) (Some trace) = Some (inquiry.Trace terminal trace)
by_both _ _ = None

-- the terminal stands before the first comma, the trace number behind it
abbrev pub by_trace : List ℕ → Option ℕ → Option Inquiry
by_trace text None = None
by_trace text (Some comma) =
    by_both (terminal_of_text (take comma text)) (trace_of_text (drop (comma + 1) text))

-- ---- by the end of a card's number, and a day

abbrev pub ends_of_text : List ℕ → Option (List ℕ)
ends_of_text text =
    if (length text == 4) && list_all is_ascii_digit text then Some text else None

-- the text is the date of a day, or of none, as what isn't UTF-8 is
abbrev pub AsksByDay : List ℕ → List ℕ → Option Inquiry → Type 0
AsksByDay digits text (Some (inquiry.CardEnds ends day)) =
    (ends ≡ digits) × (text ≡ date_text_of day)
AsksByDay digits text None = IsUtf8 text → IsNoDateText text
AsksByDay digits text (Some other) = ⊥

abbrev pub AsksByEnds : Option (List ℕ) → List ℕ → Option Inquiry → Type 0
AsksByEnds None text asked = asked ≡ None
AsksByEnds (Some digits) text asked = AsksByDay digits text asked

-- the digits stand before the first comma, the day behind it
abbrev pub AsksByCard : List ℕ → Option ℕ → Option Inquiry → Type 0
AsksByCard text None asked = asked ≡ None
AsksByCard text (Some comma) asked =
    AsksByEnds (ends_of_text (take comma text)) (drop (comma + 1) text) asked

-- ---- any of them

-- by a reference, or else by a trace number, or else by a card, or not at all
abbrev pub SpellsBy : (reference trace card : Bool) → List ℕ → Option Inquiry → Type 0
SpellsBy true trace card text asked = asked ≡ by_reference (drop 10 text)
SpellsBy false true card text asked = asked ≡ by_trace (drop 9 text) (comma_in (drop 9 text))
SpellsBy false false true text asked = AsksByCard (drop 5 text) (comma_in (drop 5 text)) asked
SpellsBy false false false text asked = asked ≡ None

abbrev pub SpellsInquiry : List ℕ → Option Inquiry → Type 0
SpellsInquiry text asked =
    SpellsBy (starts_with nat_eq text (codes "reference,"))
    (starts_with nat_eq text (codes "terminal,")) (starts_with nat_eq text (codes "card,")) text
    asked

-- what is asked of a merchant
abbrev pub AsksOf : Option (List ℕ) → List ℕ → Option Sought → Type 0
AsksOf None text asked = asked ≡ None
AsksOf (Some merchant) text None = SpellsInquiry text None
AsksOf (Some merchant) text (Some sought) =
    (sought.merchant ≡ merchant) × SpellsInquiry text (Some sought.inquiry)

-- the merchant stands before the first comma, what is asked behind it
abbrev pub AsksFind : List ℕ → Option ℕ → Option Sought → Type 0
AsksFind text None asked = asked ≡ None
AsksFind text (Some comma) asked =
    AsksOf (merchant_of_text (take comma text)) (drop (comma + 1) text) asked
