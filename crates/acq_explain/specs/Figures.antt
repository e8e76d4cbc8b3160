-- The figures of a reconciliation that aren't the day's (own profile).
use Rattle.std.specs.Prelude.{ℕ, List, [], ◌++◌, codes, flat_map, if◌then◌else◌}
use Rattle.std.specs.Ordering.{int_eq}
use Rattle.std.specs.Str.{bytes_eq}
use Rattle.iso_codec.specs.Message.{IsoMessage}
use Rattle.day_totals.specs.Totals.{DayTotals, net_of, net_text_of}
use Rattle.acq_message.specs.Claims.{net_in}
use Rattle.acq_message.specs.Elements.{text_at}
use Rattle.acq_message.specs.Reply.{count_elements, amount_elements}
use Rattle.acq_explain.specs.Details.{detail, element_name, shown}

-- an element's content, and the day's figure
unfoldable pub both_shown : ℕ → List ℕ → List ℕ → List ℕ
both_shown n text figure = shown n text ++ codes ", the day's " ++ figure

unfoldable pub claim_line : IsoMessage → ℕ → List ℕ → List ℕ
claim_line m n figure = detail (element_name n) (both_shown n (text_at m n) figure)

-- if they differ
unfoldable pub figure_line : IsoMessage → ℕ × List ℕ → List ℕ
figure_line m figure =
    if bytes_eq (text_at m figure.0) figure.1 then [] else claim_line m figure.0 figure.1

-- the net, as a number
unfoldable pub net_line : IsoMessage → DayTotals → List ℕ
net_line m t =
    if int_eq (net_in (text_at m 97)) (net_of t) then []
    else claim_line m 97 (net_text_of (net_of t))

abbrev pub figure_lines : IsoMessage → DayTotals → List ℕ
figure_lines m t =
    flat_map (figure_line m) (count_elements t) ++ flat_map (figure_line m) (amount_elements t)
    ++ net_line m t
