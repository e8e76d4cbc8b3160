use Rattle.iso_codec.proofs.SpanElements.{span_at, span_at_is, place_at}
use Rattle.iso_codec.proofs.message.place.Goals as goal

pub returns-then-span-number : goal.returns-then-span-number
returns-then-span-number c =
    let spans = c.args.spans.now in
    let i = c.loop-i.i in
    λ bytes. place_at bytes spans c.args.number i (span_at spans i) c.loop-i-test.true
    (span_at_is spans i c.loop-i-test.true) (c.loop-i.invariant bytes) c.if-span-number.true
