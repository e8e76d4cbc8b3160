use Rattle.std.proofs.Common.{sym, subst, ℕ, List}
use Rattle.std.specs.Prelude.{IsAscii}
use Rattle.card_no.proofs.MaskText.{masked-text, IsAscii-masked_of}
use Rattle.card_no.proofs.masked_number.MaskedNumber.of.Goals as goal

pub invariant_of-result : goal.invariant_of-result
invariant_of-result c =
    let text = masked-text c.args.digits.now c.copy_from_slice.new.self c.copy_from_slice-2.new.self
    c.requires.least c.requires.greatest c.copy_from_slice.ensures.after
    c.copy_from_slice-2.ensures.after in (
      c.requires.greatest,
      subst (λ (t : List ℕ). IsAscii t) (sym text)
          (IsAscii-masked_of c.args.digits.now c.requires.each),
    )

pub returns : goal.returns
returns c =
    masked-text c.args.digits.now c.copy_from_slice.new.self c.copy_from_slice-2.new.self
    c.requires.least
    c.requires.greatest c.copy_from_slice.ensures.after c.copy_from_slice-2.ensures.after
