-- Replies are messages of the reply types, and hold no elements but these (elements: ISO 8583:1987;
-- which of them a reply has: own profile).
use Rattle.std.specs.Prelude.{◌≡◌, ◌≤◌, ℕ, true, List, [], ◌∷◌, length, Option, All}
use Rattle.std.specs.List.{list_all}
use Rattle.iso_codec.specs.Content.{is_printable}
use Rattle.iso_codec.specs.Message.{IsoMessage, IsMessage, is_among}
use Rattle.iso_codec.specs.Reading.{spelling}
use Rattle.acq_message.specs.declared.service.Service.{Service}
use Rattle.acq_message.specs.Services.{reply_kind}
use Rattle.acq_core.specs.declared.event.Event.{Event}
use Rattle.acq_core.specs.declared.output.Output.{Output}
use Rattle.acq_core.specs.declared.output.Output.TheVariants.{Reply}
use Rattle.acq_core.specs.Arrivals.{arrival_of}
use Rattle.acq_core.specs.Tables.{Opening, Tables, new_tables, step_output, outputs}
use Rattle.acq_core.specs.Tables.{tables_after}
use Rattle.acq_core.specs.Events.{IsEvent, AreEvents, IsOpening}

-- the elements that a reply may have
abbrev pub reply_elements : List ℕ
reply_elements =
    2 ∷ 3 ∷ 4 ∷ 7 ∷ 11 ∷ 12 ∷ 13 ∷ 15 ∷ 37 ∷ 38 ∷ 39 ∷ 41 ∷ 42 ∷ 49 ∷ 66 ∷ 70 ∷ 74 ∷ 75 ∷ 76
    ∷ 77 ∷ 86 ∷ 87 ∷ 88 ∷ 89 ∷ 97 ∷ []

-- a message of the reply type of a service, with no other elements
pub record IsReply (service : Service) (m : IsoMessage) : Type 0 where
  pub is_message : IsMessage m
  pub kind : m.kind ≡ reply_kind service
  pub elements : list_all (is_among reply_elements) m.elements ≡ true

-- the spelling of such a message: it fits a frame, and all of its bytes are printable
pub record IsReplyText (text : List ℕ) : Type 0 where
  pub service : Service
  pub reply : IsoMessage
  pub is_reply : IsReply service reply
  pub spelled : text ≡ spelling reply
  pub not_empty : 1 ≤ length text
  pub fits : length text ≤ 4096
  pub printable : list_all is_printable text ≡ true

-- each row's reply, or what stands fixed of it, is one of the row's service
abbrev pub HasReplies : Tables → Type 0
HasReplies t = All (λ row. IsReply row.key.service row.reply) t.requests

-- whatever comes next, a reply that goes out is such a text
abbrev pub GivesReplies : Tables → Type 0
GivesReplies t =
    (e : Event) (party : Option (List ℕ)) (text : List ℕ) → IsEvent e →
    step_output t (arrival_of e) ≡ Reply party text → IsReplyText text

-- so are all replies among outputs
abbrev pub AreReplies : List Output → Type 0
AreReplies os =
    All (λ o. (party : Option (List ℕ)) (text : List ℕ) → o ≡ Reply party text → IsReplyText text)
    os

-- Whatever came, all replies, those that are kept and those that went out, are such messages.
abbrev pub RepliesAreMessages : Type 0
RepliesAreMessages =
    (opening : Opening) (es : List Event) → IsOpening opening → AreEvents es →
    HasReplies (tables_after (new_tables opening) es) × AreReplies (outputs (new_tables opening) es)
