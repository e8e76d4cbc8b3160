-- The stand-in file (own profile): records of a card, a verdict's word and its text, and where the
-- answer takes its time, the milliseconds. The first record with a card decides; a card that isn't
-- there gets no answer, at once.
use Rattle.std.specs.Prelude.{◌≡◌, ℕ, nat_le, Bool, false, ◌&&◌, List, [], ◌∷◌, length, find}
use Rattle.std.specs.Prelude.{Option, Some, None, Result, if◌then◌else◌}
use Rattle.std.specs.List.{list_all}
use Rattle.std.specs.Char.{is_ascii_digit}
use Rattle.std.specs.Str.{bytes_eq}
use Rattle.std.specs.Str.Parse.{digits_value}
use Rattle.card_no.specs.CardNumbers.{is_valid_card}
use Rattle.acq_message.specs.declared.verdict.Verdict.{Verdict}
use Rattle.acq_message.specs.declared.verdict.Verdict.TheVariants.{NoAnswer}
use Rattle.acq_core.specs.declared.query.Query.{Query}
use Rattle.acq_out.specs.Fields.{verdict_of_texts}
use Rattle.acq_out.specs.Records.{values_of_text}
use Rattle.acq_stand_in.specs.declared.card_answer.CardAnswer.{CardAnswer}

-- the card that a text names: one that is no valid card number is no request's card
abbrev pub card_of_text : List ℕ → Option (List ℕ)
card_of_text text = if is_valid_card text then Some text else None

-- 1 to 7 digits, leading zeros allowed
abbrev pub is_milliseconds_text : List ℕ → Bool
is_milliseconds_text text =
    nat_le 1 (length text) && nat_le (length text) 7 && list_all is_ascii_digit text

abbrev pub milliseconds_of_text : List ℕ → Option ℕ
milliseconds_of_text text =
    if is_milliseconds_text text then Some (digits_value 10 text) else None

-- a record's answer, where its verdict and the milliseconds that it takes are there
abbrev pub answer_of : List ℕ → Option Verdict → Option ℕ → Option CardAnswer
answer_of card (Some verdict) (Some takes) =
    Some (record { card = card_of_text card; verdict = verdict; takes = takes })
answer_of card _ _ = None

-- the answer that a record spells, if it is of three fields in their form, or of four
abbrev pub answer_of_fields : List (List ℕ) → Option CardAnswer
answer_of_fields (card ∷ word ∷ text ∷ []) = answer_of card (verdict_of_texts word text) (Some 0)
answer_of_fields (card ∷ word ∷ text ∷ takes ∷ []) =
    answer_of card (verdict_of_texts word text) (milliseconds_of_text takes)
answer_of_fields _ = None

-- The answers of a file, or the number of its first record out of form.
abbrev pub answers_of_text : List ℕ → Result (List CardAnswer) ℕ
answers_of_text text = values_of_text answer_of_fields text

abbrev pub is_card : List ℕ → Option (List ℕ) → Bool
is_card card None = false
is_card card (Some own) = bytes_eq own card

-- the answer is for this card
abbrev pub is_for : List ℕ → CardAnswer → Bool
is_for card answer = is_card card answer.card

abbrev pub verdict_of_first : Option CardAnswer → Verdict
verdict_of_first None = NoAnswer
verdict_of_first (Some answer) = answer.verdict

-- what the file says for a card
abbrev pub verdict_for : List CardAnswer → List ℕ → Verdict
verdict_for answers card = verdict_of_first (find (is_for card) answers)

-- milliseconds: none where there is no answer
abbrev pub takes_of_first : Option CardAnswer → ℕ
takes_of_first None = 0
takes_of_first (Some answer) = answer.takes

-- how many milliseconds the answer for a card takes
abbrev pub takes_for : List CardAnswer → List ℕ → ℕ
takes_for answers card = takes_of_first (find (is_for card) answers)

-- what a file's answers say to a query
abbrev pub says_by : List CardAnswer → Query → Verdict → Type 0
says_by answers query verdict = verdict ≡ verdict_for answers query.card
