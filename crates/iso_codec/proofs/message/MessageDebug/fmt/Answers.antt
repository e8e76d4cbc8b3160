use Rattle.std.proofs.Common.{ap, sym, ◌∙◌, refl, arith, List, ℕ, ◌++◌}
use Rattle.std.specs.Prelude.{codes}
use Rattle.std.proofs.lemmas.List.{append-nil}
use Rattle.std.proofs.lemmas.Str.{IsUtf8-from_ascii}
use Rattle.std.proofs.Output.{has_written_append, has_written_of_eq}
use Rattle.iso_codec.specs.Message.{IsoMessage}
use Rattle.iso_codec.proofs.ShownSizes.{digits-ascii, shown-more, shown-whole}
use Rattle.iso_codec.proofs.SpanElements.{span_at, span_at_is}
use Rattle.iso_codec.proofs.message.MessageDebug.fmt.Goals as goal

pub unreachable-requires : goal.unreachable-requires
unreachable-requires g c =
    c.in_default.ensures.cases.0 (IsUtf8-from_ascii c.self.inside.kind
    (digits-ascii c.self.inside.kind c.self.invariant.message.kind_fits.digits))

pub returns : goal.returns
returns g c = record {
  writes = λ plain ok.
      let took = g.W.Write.write_str_gives in
      let sizes = c.loop-span.invariant plain in
      let last = c.write-2.ensures.writes sizes.plain ok in
      let whole = shown-whole c.args.self.now c.self.inside.bytes.items c.self.inside.spans.items
      c.as_slice-spans.result.now c.loop-span.span-index
      (ap (λ (m : IsoMessage). m.elements) c.self.view_is)
      c.self.invariant.within c.as_slice-spans.ensures.value (omega arith) in
      has_written_of_eq took _ _ _ _ whole (has_written_append took _ _ _ _ _ sizes last);
}

pub loop-span-init : goal.loop-span-init
loop-span-init g c = λ plain.
    let took = g.W.Write.write_str_gives in
    let kind = c.in-Ok.ensures.cases.0 ∙ ap (λ (m : IsoMessage). m.kind) c.self.view_is
    ∙ sym (append-nil c.args.self.now.kind) in
    has_written_of_eq took _ _ _ _ (ap (λ (t : List ℕ). codes "Message(" ++ t) kind)
    (c.in_ok-write.ensures.writes plain refl)

pub loop-span-preserved : goal.loop-span-preserved
loop-span-preserved g c = λ plain.
    let took = g.W.Write.write_str_gives in
    let spans = c.as_slice-spans.result.now in
    let i = c.loop-span.span-index in
    let sizes = c.loop-span.invariant plain in
    let one = c.in_ok-write-2.ensures.writes sizes.plain refl in
    let more = shown-more c.args.self.now.kind spans i (span_at spans i) c.loop-span-test.true
    (span_at_is spans i c.loop-span-test.true) in
    has_written_of_eq took _ _ _ _ (sym more) (has_written_append took _ _ _ _ _ sizes one)
