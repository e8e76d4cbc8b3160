use Rattle.std.proofs.Common.{rules, ◌∙◌, sym, ap, subst, List, ℕ}
use Rattle.std.specs.List.{filter}
use Rattle.iso_codec.specs.declared.span.Span.{Span}
use Rattle.iso_codec.specs.Message.{IsMessage, IsKind, is_among}
use Rattle.iso_codec.specs.Span.{elements_in}
use Rattle.iso_codec.proofs.SelectedElements.{message-filter}
use Rattle.iso_codec.proofs.message.Message.select.Goals as goal

pub invariant_of-result : goal.invariant_of-result
invariant_of-result c =
    let old = c.self.inside in
    let p = is_among c.args.numbers.now in
    let kind_fits : IsKind c.args.kind = record { size = search rules; digits = c.requires } in
    let kept = c.in_ok-spans.ensures.value
    ∙ ap (λ (bs : List ℕ). filter p (elements_in bs c.as_slice.result.now))
    c.as_slice-2.ensures.value
    ∙ ap (λ (ss : List Span). filter p (elements_in old.bytes.items ss)) c.as_slice.ensures.value in
    record {
      within = c.in_ok-spans.ensures.within;
      message = subst (λ (es : List (ℕ × List ℕ)). IsMessage
          (record { kind = c.args.kind; elements = es }))
          (sym kept)
          (message-filter p old.kind c.args.kind (elements_in old.bytes.items old.spans.items)
          c.self.invariant.message kind_fits);
    }
