use Rattle.std.proofs.Common.{sym, ◌∙◌}
use Rattle.acq_deciding.proofs.PaddedTexts.{zeros_and_rest, no_zeros}
use Rattle.acq_deciding.proofs.deciding.reversal.is_padded.Goals as goal

pub returns-then-are_zeros : goal.returns-then-are_zeros
returns-then-are_zeros c =
    c.eq.ensures ∙ zeros_and_rest c.args.text.now c.split_at.result.0.now c.split_at.result.1.now
    c.args.padding
    c.args.end.now c.if-text-padding.false c.split_at.ensures.front c.split_at.ensures.back
    (sym c.are_zeros.ensures ∙ c.if-are_zeros.true)

pub returns-else-are_zeros : goal.returns-else-are_zeros
returns-else-are_zeros c =
    c.if-are_zeros.false ∙ no_zeros c.args.text.now c.split_at.result.0.now c.split_at.result.1.now
    c.args.padding
    c.args.end.now c.if-text-padding.false c.split_at.ensures.front c.split_at.ensures.back
    (sym c.are_zeros.ensures ∙ c.if-are_zeros.false)
