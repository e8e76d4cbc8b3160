use Rattle.std.proofs.Common.{sym, ap, refl, ◌∙◌, ◌≡◌, true, false, ◌+◌, take}
use Rattle.std.proofs.lemmas.List.{take_rest}
use Rattle.card_no.specs.Track2.{if_number, may_be_number}
use Rattle.card_no.proofs.Track2Parts.{parts-none, parts-at}
use Rattle.card_no.proofs.track2.split_track2.Goals as goal

pub returns-in_default : goal.returns-in_default
returns-in_default c =
    let none = parts-none c.args.track.now (sym c.separator_place.ensures ∙ c.in_default.is) in
    sym (ap if_number none)

pub returns-then-not-may_be_number : goal.returns-then-not-may_be_number
returns-then-not-may_be_number c =
    let track = c.args.track.now in
    let at = parts-at track c.in-Some.place (sym c.separator_place.ensures ∙ c.in-Some.is) in
    let not-number : may_be_number (take c.in-Some.place track) ≡ false =
    sym c.may_be_number.ensures
    ∙ c.if-not-may_be_number.true in
    sym (ap if_number at ∙ rw not-number refl)

pub returns : goal.returns
returns c =
    let track = c.args.track.now in
    let place = c.in-Some.place in
    let at = parts-at track place (sym c.separator_place.ensures ∙ c.in-Some.is) in
    let number : may_be_number (take place track) ≡ true = sym c.may_be_number.ensures
    ∙ c.if-not-may_be_number.false in
    rw (take_rest track (place + 1)) (sym (ap if_number at ∙ rw number refl))
