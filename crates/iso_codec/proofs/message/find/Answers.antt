use Rattle.std.proofs.Common.{sym, ap, ◌∙◌, Some, List, ℕ}
use Rattle.iso_codec.proofs.SpanElements.{span_at, span_at_is, found_at, past_at}
use Rattle.iso_codec.proofs.message.find.Goals as goal

pub returns-then-span-number : goal.returns-then-span-number
returns-then-span-number c =
    let spans = c.args.spans.now in
    let i = c.loop-span.span-index in
    ap (λ (t : List ℕ). Some t) c.bytes_at.ensures
    ∙ sym (found_at c.args.bytes.now spans i (span_at spans i) c.args.number c.loop-span.invariant
    c.loop-span-test.true (span_at_is spans i c.loop-span-test.true) c.if-span-number.true)

pub loop-span-preserved : goal.loop-span-preserved
loop-span-preserved c =
    let spans = c.args.spans.now in
    let i = c.loop-span.span-index in
    past_at c.args.bytes.now spans i (span_at spans i) c.args.number c.loop-span.invariant
    c.loop-span-test.true
    (span_at_is spans i c.loop-span-test.true) c.if-span-number.false
