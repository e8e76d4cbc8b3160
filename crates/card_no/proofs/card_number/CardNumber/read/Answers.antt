use Rattle.std.proofs.Common.{◌≡◌, ◌∙◌, sym, true}
use Rattle.card_no.specs.CardNumbers.{is_valid_card}
use Rattle.card_no.proofs.DigitPlaces.{kept-card, valid_digits}
use Rattle.card_no.proofs.card_number.CardNumber.read.Goals as goal

pub invariant_of-result : goal.invariant_of-result
invariant_of-result c =
    let text = c.args.text.now in
    let valid : is_valid_card text ≡ true = sym c.is_valid.ensures ∙ c.if-not-is_valid.false in
    let least = (valid_digits text valid).1 in
    let kept = kept-card text c.copy_from_slice.new.self least valid c.copy_from_slice.ensures.after
    in
    (least, kept.0, kept.1)
