-- What is kept of a card, and sent: its number, and no track, PIN block or chip data (elements: ISO
-- 8583:1987; what is kept: own profile).
use Rattle.std.specs.Prelude.{◌≡◌, ℕ, nat_le, Bool, true, not, ◌&&◌, List, [], ◌∷◌, length, Option}
use Rattle.std.specs.Prelude.{All, IfSome}
use Rattle.std.specs.Char.{is_ascii_digit}
use Rattle.std.specs.List.{list_all, list_any}
use Rattle.card_no.specs.Track2.{may_be_number}
use Rattle.iso_codec.specs.Message.{IsoMessage, IsMessage, is_among}
use Rattle.iso_codec.specs.Reading.{spelling}
use Rattle.acq_message.specs.Elements.{essential_of_any}
use Rattle.acq_core.specs.declared.event.Event.{Event}
use Rattle.acq_core.specs.declared.request.Request.{Request}
use Rattle.acq_core.specs.declared.output.Output.{Output}
use Rattle.acq_core.specs.declared.output.Output.TheVariants.{Reply}
use Rattle.acq_core.specs.Tables.{Opening, Tables, new_tables, outputs, tables_after}
use Rattle.acq_core.specs.Events.{AreEvents, IsOpening}

-- the elements of tracks 2 and 1, of the PIN block, and of the chip
abbrev pub sensitive_elements : List ℕ
sensitive_elements = 35 ∷ 45 ∷ 52 ∷ 55 ∷ []

-- a message has none of them
abbrev pub lacks_sensitive_data : IsoMessage → Bool
lacks_sensitive_data m = not (list_any (is_among sensitive_elements) m.elements)

-- the spelling of a message with the card number and the essential elements alone
pub record IsEssence (text : List ℕ) : Type 0 where
  pub message : IsoMessage
  pub is_message : IsMessage message
  pub spelled : text ≡ spelling message
  pub elements : list_all (is_among (2 ∷ essential_of_any)) message.elements ≡ true
  pub lacks : lacks_sensitive_data message ≡ true

-- at most eleven digits
abbrev pub may_be_acquirer : List ℕ → Bool
may_be_acquirer text = nat_le (length text) 11 && list_all is_ascii_digit text

-- a row keeps 0 to 19 digits of a card number, at most 11 of an acquirer, and no sensitive data
pub record KeepsNoSensitiveData (row : Request) : Type 0 where
  pub essence : IsEssence row.essence
  pub card : IfSome row.card (λ text. may_be_number text ≡ true)
  pub acquirer : IfSome row.acquirer (λ text. may_be_acquirer text ≡ true)
  pub reply : lacks_sensitive_data row.reply ≡ true

-- a text spells a message without sensitive data
pub record SpellsNoSensitiveData (text : List ℕ) : Type 0 where
  pub message : IsoMessage
  pub is_message : IsMessage message
  pub spelled : text ≡ spelling message
  pub lacks : lacks_sensitive_data message ≡ true

-- so it is of all rows
abbrev pub HasNoSensitiveData : Tables → Type 0
HasNoSensitiveData t = All KeepsNoSensitiveData t.requests

-- and of all replies among outputs
abbrev pub SendNoSensitiveData : List Output → Type 0
SendNoSensitiveData os =
    All (λ o. (party : Option (List ℕ)) (text : List ℕ) → o ≡ Reply party text →
    SpellsNoSensitiveData text) os

-- Whatever came, no row keeps sensitive data, and no reply that went out has them.
abbrev pub SensitiveDataStaysOut : Type 0
SensitiveDataStaysOut =
    (opening : Opening) (es : List Event) → IsOpening opening → AreEvents es →
    HasNoSensitiveData (tables_after (new_tables opening) es)
    × SendNoSensitiveData (outputs (new_tables opening) es)
