use Rattle.std.proofs.Common.{subst, sym, ◌∙◌, List, ℕ}
use Rattle.iso_codec.specs.Message.{IsMessage}
use Rattle.iso_codec.specs.Span.{elements_in}
use Rattle.iso_codec.proofs.ElementPlaces.{message_with}
use Rattle.iso_codec.proofs.message.Message.set.Goals as goal

pub invariant_of-self-2 : goal.invariant_of-self-2
invariant_of-self-2 c =
    let kind = c.self.inside.kind in
    let old = elements_in c.self.inside.bytes.items c.self.inside.spans.items in
    record {
      within = c.put.ensures.within;
      message = subst (λ (es : List (ℕ × List ℕ)). IsMessage
          (record { kind = kind; elements = es }))
          (sym c.in_ok-put.ensures.ok)
          (message_with kind old c.args.number c.args.content.now c.self.invariant.message
          (sym c.refusal.ensures ∙ c.in_default.is));
    }
