-- What a reconciliation claims (elements 74 to 77, 86 to 89 and 97 of ISO 8583:1987).
use Rattle.std.specs.Prelude.{ℕ, ◌==◌, List, [], ◌∷◌, map, ℤ, pos, ◌-ℤ◌, if◌then◌else◌}
use Rattle.std.specs.Str.Parse.{digits_value}
use Rattle.day_totals.specs.declared.claimed.Claimed.{Claimed}
use Rattle.iso_codec.specs.Message.{IsoMessage}
use Rattle.acq_message.specs.Elements.{text_at, number_at}

-- a net as element 97 has it: `C` or `D`, and sixteen digits
abbrev pub net_in : List ℕ → ℤ
net_in [] = pos 0
net_in (sign ∷ digits) =
    if sign == 68 then pos 0 -ℤ pos (digits_value 10 digits) else pos (digits_value 10 digits)

-- the totals that a reconciliation claims
abbrev pub claimed_in : IsoMessage → Claimed
claimed_in m =
    record {
      counts = map (number_at m) (74 ∷ 75 ∷ 76 ∷ 77 ∷ []);
      amounts = map (number_at m) (86 ∷ 87 ∷ 88 ∷ 89 ∷ []);
      net = net_in (text_at m 97);
    }
