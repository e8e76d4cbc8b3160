-- What a request says: its elements, its key, and its essence (elements: ISO 8583:1987; key and
-- essence: own profile).
use Rattle.std.specs.Prelude.{ℕ, Bool, ◌&&◌, List, [], ◌∷◌, ◌++◌, take, drop, filter, codes}
use Rattle.std.specs.Prelude.{Option, Some, None, option_map, is_some, if◌then◌else◌}
use Rattle.std.specs.List.{list_all}
use Rattle.std.specs.Str.{bytes_eq}
use Rattle.std.specs.Char.{is_ascii_digit}
use Rattle.iso_codec.specs.Message.{IsoMessage, content_of, is_among}
use Rattle.iso_codec.specs.Reading.{spelling}
use Rattle.std.specs.Str.Parse.{digits_value}
use Rattle.day_totals.specs.declared.leg.Leg.{Leg}
use Rattle.day_totals.specs.declared.leg.Leg.TheVariants.{Credit, Debit}
use Rattle.acq_message.specs.declared.service.Service.{Service}
use Rattle.acq_message.specs.declared.service.Service.TheVariants.{Authorization, Financial}
use Rattle.acq_message.specs.declared.service.Service.TheVariants.{Completion, Reversal}
use Rattle.acq_message.specs.declared.service.Service.TheVariants.{ReversalAdvice}
use Rattle.acq_message.specs.declared.request_key.RequestKey.{RequestKey}
use Rattle.acq_message.specs.Services.{digits_of, same_service}
use Rattle.acq_message.specs.Cards.{card_of}

-- whether a message has an element
abbrev pub has : IsoMessage → ℕ → Bool
has m n = is_some (content_of m.elements n)

-- the text, or none of its bytes
abbrev pub or_empty : Option (List ℕ) → List ℕ
or_empty (Some text) = text
or_empty None = []

-- the content of an element, nothing where it isn't there
abbrev pub text_at : IsoMessage → ℕ → List ℕ
text_at m n = or_empty (content_of m.elements n)

-- the number in an element of digits
abbrev pub number_at : IsoMessage → ℕ → ℕ
number_at m n = digits_value 10 (text_at m n)

-- element 4, in minor units; 0 where it isn't there
abbrev pub amount_in : IsoMessage → ℕ
amount_in m = number_at m 4

-- the first two digits of element 3
abbrev pub transaction_in : IsoMessage → List ℕ
transaction_in m = take 2 (text_at m 3)

-- a return credits the card, anything else debits it
abbrev pub sale_leg : IsoMessage → Leg
sale_leg m = if bytes_eq (transaction_in m) (codes "20") then Credit else Debit

-- element 37, where it is a number
abbrev pub reference_in : IsoMessage → Option ℕ
reference_in m = if list_all is_ascii_digit (text_at m 37) then Some (number_at m 37) else None

-- the merchant that a message names in element 42
abbrev pub merchant_in : IsoMessage → Option (List ℕ)
merchant_in m = content_of m.elements 42

-- ---- the key

-- what tells a request from all others
abbrev pub key_of : Service → IsoMessage → RequestKey
key_of service m =
    record {
      merchant = text_at m 42;
      terminal = text_at m 41;
      service = service;
      trace = text_at m 11;
      transmission = text_at m 7;
    }

-- all five parts are the same
abbrev pub same_key : RequestKey → RequestKey → Bool
same_key a b =
    bytes_eq a.merchant b.merchant && bytes_eq a.terminal b.terminal
    && same_service a.service b.service && bytes_eq a.trace b.trace
    && bytes_eq a.transmission b.transmission

-- ---- the essence

-- the elements that a repeat of some service must have alike, beside the card number
abbrev pub essential_of_any : List ℕ
essential_of_any =
    3 ∷ 4 ∷ 15 ∷ 37 ∷ 49 ∷ 74 ∷ 75 ∷ 76 ∷ 77 ∷ 86 ∷ 87 ∷ 88 ∷ 89 ∷ 90 ∷ 95 ∷ 97 ∷ []

-- those of each service: all but 95, which says what a reversal lets remain, and of these all
abbrev pub essential : Service → List ℕ
essential Reversal = essential_of_any
essential ReversalAdvice = essential_of_any
essential service =
    3 ∷ 4 ∷ 15 ∷ 37 ∷ 49 ∷ 74 ∷ 75 ∷ 76 ∷ 77 ∷ 86 ∷ 87 ∷ 88 ∷ 89 ∷ 90 ∷ 97 ∷ []

-- an element with this content, where there is one
abbrev pub element_if : ℕ → Option (List ℕ) → List (ℕ × List ℕ)
element_if n None = []
element_if n (Some text) = (n, text) ∷ []

-- what a repeat must have alike, as one text: the spelling of a message with just that
abbrev pub essence_of : Service → IsoMessage → List ℕ
essence_of service m =
    spelling (record {
      kind = digits_of service ++ codes "0";
      elements = element_if 2 (card_of m) ++ filter (is_among (essential service)) m.elements;
    })

-- ---- what a reversal lets remain: element 95 begins with the amount, of twelve digits

-- the text of the amount, nothing where the element isn't there
abbrev pub remaining_text : IsoMessage → List ℕ
remaining_text m = take 12 (text_at m 95)

-- the amount; 0, which is a full reversal, where the element isn't there or begins with none
abbrev pub remaining_in : IsoMessage → ℕ
remaining_in m =
    if list_all is_ascii_digit (remaining_text m) then digits_value 10 (remaining_text m) else 0

-- ---- the original of a reversal: element 90 has its type, trace, transmission date and time,
-- acquirer and forwarder

-- the service of an original that can be reversed
abbrev pub original_service : List ℕ → Option Service
original_service digits =
    if bytes_eq digits (digits_of Authorization) then Some Authorization
    else if bytes_eq digits (digits_of Financial) then Some Financial
    else if bytes_eq digits (digits_of Completion) then Some Completion
    else None

-- the key that element 90 spells, with a service
abbrev pub original_key_with : IsoMessage → Service → RequestKey
original_key_with m service =
    record {
      merchant = text_at m 42;
      terminal = text_at m 41;
      service = service;
      trace = take 6 (drop 4 (text_at m 90));
      transmission = take 10 (drop 10 (text_at m 90));
    }

-- the key of the original: of the same merchant and terminal
abbrev pub original_key : IsoMessage → Option RequestKey
original_key m = option_map (original_key_with m) (original_service (take 3 (text_at m 90)))

-- the acquirer that element 90 names
abbrev pub original_acquirer : IsoMessage → List ℕ
original_acquirer m = take 11 (drop 20 (text_at m 90))
