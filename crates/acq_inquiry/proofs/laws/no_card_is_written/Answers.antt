use Rattle.std.proofs.Common.{◌≡◌, ◌∙◌, ◌==◌, ◌++◌, ℕ, List, [], Option, Some, None}
use Rattle.std.proofs.Common.{ap, length, refl, sym}
use Rattle.std.specs.Prelude.{codes, if◌then◌else◌}
use Rattle.acq_core.specs.declared.request.Request.{Request}
use Rattle.acq_core.specs.declared.status.Status.{Status}
use Rattle.acq_core.specs.declared.status.Status.TheVariants.{Approved, Completed, Lowered}
use Rattle.acq_core.specs.declared.status.Status.TheVariants.{Reversed}
use Rattle.acq_core.specs.Tables.{Tables}
use Rattle.acq_show.specs.Contents.{content_shown}
use Rattle.acq_show.specs.Hidden.{LookAlike, CardNumbers}
use Rattle.acq_show.proofs.HiddenContents.{contents_alike}
use Rattle.acq_inquiry.specs.InquiryTexts.{request_text}
use Rattle.acq_inquiry.specs.PostingLines.{posting_lines}
use Rattle.acq_inquiry.specs.RequestLines.{asked_amount, card_words, held_line, line_about}
use Rattle.acq_inquiry.specs.RequestLines.{reference_words, reply_words, service_words}
use Rattle.acq_inquiry.specs.RequestLines.{standing_line, start_of}
use Rattle.acq_inquiry.proofs.laws.no_card_is_written.Goals as goal

words_alike : (card other : List ℕ) → LookAlike card other → card_words card ≡ card_words other
words_alike card other alike =
    ap (λ n. if n == 0 then [] else codes ", card " ++ content_shown 2 card) alike.size
    ∙ ap (λ shown. if length other == 0 then [] else codes ", card " ++ shown)
    (contents_alike 2 card other (CardNumbers refl alike))

-- a request of this card
abbrev of_card : Request → List ℕ → Request
of_card row card = record row { card = Some card }

held_alike : (row : Request) (card : List ℕ) (end : Option ℕ) →
    held_line (of_card row card) end ≡ held_line row end
unfolding start_of
held_alike row card None = refl
held_alike row card (Some end) = refl

-- where it stands has nothing of the card
standing_alike : (row : Request) (card : List ℕ) (status : Status) →
    standing_line status (of_card row card) ≡ standing_line status row
unfolding start_of
standing_alike row card Approved = held_alike row card row.hold_end
standing_alike row card Completed = refl
standing_alike row card Reversed = refl
standing_alike row card Lowered = refl
standing_alike row card status = refl

-- the text of a request, by what is said of its card and of where it stands
abbrev text_by : Tables → Request → (card standing : List ℕ) → List ℕ
text_by t row card standing =
    (line_about row (service_words row.key.service row.reply
    ++ asked_amount row.key.service row.reply
    ++ reference_words (codes ", reference ") row.reference
    ++ reference_words (codes ", of ") row.follows ++ card)
    ++ line_about row (reply_words row.status row.reply) ++ standing)
    ++ posting_lines t row

text_is : (t : Tables) (row : Request) (card : List ℕ) →
    request_text t (of_card row card)
    ≡ text_by t row (card_words card) (standing_line row.status row)
unfolding request_text start_of
text_is t row card = ap (text_by t row (card_words card)) (standing_alike row card row.status)

pub returns : goal.returns
returns c = λ t row card other alike.
    text_is t row card
    ∙ ap (λ words. text_by t row words (standing_line row.status row))
    (words_alike card other alike)
    ∙ sym (text_is t row other)
