-- The card of a message (ISO 8583:1987, primary account number, date, expiration, and track 2
-- data; which of them counts: own profile).
use Rattle.std.specs.Prelude.{ℕ, nat_le, Bool, false, not, ◌&&◌, List, length, take}
use Rattle.std.specs.Prelude.{Option, Some, None, is_some, is_none, option_map, if◌then◌else◌}
use Rattle.std.specs.Option.{option_or}
use Rattle.std.specs.List.{list_all}
use Rattle.std.specs.Str.{bytes_eq}
use Rattle.card_no.specs.Track2.{track2_of}
use Rattle.std.specs.Char.{is_ascii_digit}
use Rattle.iso_codec.specs.Message.{IsoMessage, content_of}

-- the card number in track 2 and what stands after it, where there is a track with one
abbrev pub track_in : Option (List ℕ) → Option (List ℕ × List ℕ)
track_in None = None
track_in (Some content) = track2_of content

-- the card number in element 35 and what stands after it, where it has one
abbrev pub track_of : IsoMessage → Option (List ℕ × List ℕ)
track_of m = track_in (content_of m.elements 35)

-- the card number: element 2, else what stands before the sign of element 35
abbrev pub card_of : IsoMessage → Option (List ℕ)
card_of m = option_or (content_of m.elements 2) (option_map (λ track. track.0) (track_of m))

-- the four digits at the front
abbrev pub expiry_at : List ℕ → Option (List ℕ)
expiry_at after =
    if nat_le 4 (length after) && list_all is_ascii_digit (take 4 after) then Some (take 4 after)
    else None

-- the expiry behind a card number in track 2
abbrev pub expiry_in : Option (List ℕ × List ℕ) → Option (List ℕ)
expiry_in None = None
expiry_in (Some track) = expiry_at track.1

-- the expiry, YYMM: element 14, else the four digits behind the sign of element 35
abbrev pub expiry_of : IsoMessage → Option (List ℕ)
expiry_of m = option_or (content_of m.elements 14) (expiry_in (track_of m))

-- element 35 is there, and no card number stands before a sign in it
abbrev pub has_bad_track : IsoMessage → Bool
has_bad_track m = is_some (content_of m.elements 35) && is_none (track_of m)

-- a card number is not that of track 2
abbrev pub differ : Option (List ℕ) → Option (List ℕ × List ℕ) → Bool
differ None track = false
differ (Some number) None = false
differ (Some number) (Some track) = not (bytes_eq number track.0)

-- elements 2 and 35 are there with different card numbers
abbrev pub has_two_cards : IsoMessage → Bool
has_two_cards m = differ (content_of m.elements 2) (track_of m)
