use Rattle.std.proofs.Common.{subst, sym, true, ◌≡◌, List, ℕ}
use Rattle.std.specs.List.{list_all}
use Rattle.iso_codec.specs.declared.span.Span.{Span}
use Rattle.iso_codec.specs.Message.{is_element}
use Rattle.iso_codec.specs.Span.{elements_in}
use Rattle.iso_codec.proofs.ElementPlaces.{got_fits}
use Rattle.iso_codec.proofs.message.Message.get.Goals as goal

pub returns-clause-fits : goal.returns-clause-fits
returns-clause-fits c =
    let spans = c.as_slice.result.now in
    let bytes = c.as_slice-2.result.now in
    let each = subst (λ (ss : List Span). list_all is_element (elements_in bytes ss) ≡ true)
    (sym c.as_slice.ensures.value)
    (subst (λ (bs : List ℕ). list_all is_element (elements_in bs c.self.inside.spans.items) ≡ true)
    (sym c.as_slice-2.ensures.value) c.self.invariant.message.each) in
    got_fits (elements_in bytes spans) c.args.number c.find.result each c.find.ensures
