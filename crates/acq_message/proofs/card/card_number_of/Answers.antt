use Rattle.std.proofs.Common.{◌≡◌, ℕ, true, leb, List, length, Option, Some, None, ap, inl, inr}
use Rattle.std.specs.List.{list_all}
use Rattle.std.specs.Char.{is_ascii_digit}
use Rattle.std.proofs.lemmas.Bool.{cases_Bool}
use Rattle.card_no.specs.Track2.{may_be_number, if_number, parts_of}
use Rattle.iso_codec.specs.Message.{content_of}
use Rattle.iso_codec.specs.Content.{has_class}
use Rattle.iso_codec.specs.Table.{format_of}
use Rattle.iso_codec.specs.Setting.{set_fault}
use Rattle.acq_message.specs.Cards.{track_in}
use Rattle.acq_message.proofs.ElementsFit.{fits_both}
use Rattle.acq_message.proofs.card.card_number_of.Goals as goal

may_be : (parts : Option (List ℕ × List ℕ)) (number after : List ℕ) →
    Some (number, after) ≡ if_number parts
    → may_be_number number ≡ true
may_be None number after h = absurd cc
may_be (Some p) number after h =
    elim (cases_Bool (may_be_number p.0)) [
      | inl good ↦
          let is : (number, after) ≡ p = let both = rw good at h in cc in
          rw (ap (λ (q : List ℕ × List ℕ). q.0) is) good
      | inr bad ↦ let none = rw bad at h in absurd cc
    ]

track_fits : (track : Option (List ℕ)) (number after : List ℕ) →
    Some (number, after) ≡ track_in track
    → set_fault 2 number ≡ None
unfolding format_of has_class
track_fits None number after h = absurd cc
track_fits (Some content) number after h =
    fits_both (leb (length number) 19) (list_all is_ascii_digit number) _ _
    (may_be (parts_of content) number after h)

pub returns-in-Some-track_of-clause-fits : goal.returns-in-Some-track_of-clause-fits
returns-in-Some-track_of-clause-fits c =
    track_fits (content_of c.args.message.now.elements 35) c.in-Some-track_of.number.now _
    c.in-Some-track_of.ensures
