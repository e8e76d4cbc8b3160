-- The first check of every request (own profile).
use Rattle.std.specs.Prelude.{ℕ, Bool, true, not, ◌&&◌, ◌||◌, List, [], ◌∷◌}
use Rattle.std.specs.List.{list_all, list_any}
use Rattle.std.specs.Char.{is_ascii_digit}
use Rattle.iso_codec.specs.Message.{IsoMessage}
use Rattle.acq_message.specs.declared.service.Service.{Service}
use Rattle.acq_message.specs.Services.{needed, needed_card, names_original}
use Rattle.acq_message.specs.Elements.{has, remaining_text}
use Rattle.acq_message.specs.Cards.{has_bad_track, has_two_cards}

-- one of these is there, or none is needed
abbrev pub has_one_of : IsoMessage → List ℕ → Bool
has_one_of m [] = true
has_one_of m (n ∷ ns) = list_any (has m) (n ∷ ns)

-- a PIN block and authentication codes, which the host can't check
abbrev pub unverifiable : List ℕ
unverifiable = 52 ∷ 64 ∷ 128 ∷ []

-- element 95 of a reversal is there, and doesn't begin with an amount
abbrev pub has_bad_remainder : Service → IsoMessage → Bool
has_bad_remainder service m =
    names_original service && not (list_all is_ascii_digit (remaining_text m))

-- a needed element is missing, one is there that can't be checked, its card isn't clear, or not
-- what a reversal lets remain
abbrev pub is_malformed : Service → IsoMessage → Bool
is_malformed service m =
    not (list_all (has m) (needed service)) || not (has_one_of m (needed_card service))
    || list_any (has m) unverifiable || has_bad_track m || has_two_cards m
    || has_bad_remainder service m
