-- the rows of the slice, behind those that it was told
use Rattle.std.proofs.Common.{◌∙◌, ◌++◌, ap, inr, refl}
use Rattle.acq_gateway.proofs.gateway.Gateway.tell_rows.Goals as goal

pub returns-clause-tells : goal.returns-clause-tells
returns-clause-tells g c = λ h o. (
  c.in_ok-slice.slice.text.items,
  c.in_ok-extend_from_slice.ensures.items
      ∙ ap (λ l. c.args.self.now.output.items ++ l) c.as_slice.ensures.value,
  inr (
    c.in-Some.rows,
    c.messages.result.now,
    c.in_ok-slice.slice,
    c.in-Some.is,
    c.in_ok-slice.ensures.slice h o,
    refl,
    refl,
  ),
  refl,
  refl,
)
