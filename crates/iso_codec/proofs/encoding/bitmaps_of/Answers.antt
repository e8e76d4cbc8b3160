use Rattle.std.proofs.Common.{arith, take}
use Rattle.iso_codec.specs.Span.{numbers_of}
use Rattle.iso_codec.proofs.SpanElements.{span_at, span_at_is, number_in_range, numbers_of-more}
use Rattle.iso_codec.proofs.BitmapsOfNumbers.{marks_low, marks_high}
use Rattle.iso_codec.proofs.encoding.bitmaps_of.Goals as goal
use Rattle.iso_codec.proofs.encoding.bitmaps_of.Goals.{then-number-le64, else-number-le64}

pub with_bit-primary-requires-clause-low : goal.with_bit-primary-requires-clause-low
with_bit-primary-requires-clause-low c =
    let spans = c.args.spans.now in
    let i = c.loop-span.span-index in
    let r = number_in_range spans i (span_at spans i) c.requires c.loop-span-test.true
    (span_at_is spans i c.loop-span-test.true) in
    omega (arith, r.0)

pub with_bit-secondary-requires-clause-high : goal.with_bit-secondary-requires-clause-high
with_bit-secondary-requires-clause-high c =
    let spans = c.args.spans.now in
    let i = c.loop-span.span-index in
    let r = number_in_range spans i (span_at spans i) c.requires c.loop-span-test.true
    (span_at_is spans i c.loop-span-test.true) in
    omega (arith, r.1)

pub loop-span-preserved : goal.loop-span-preserved
loop-span-preserved c =
    let spans = c.args.spans.now in
    let i = c.loop-span.span-index in
    let lt = c.loop-span-test.true in
    let s = span_at spans i in
    let is = span_at_is spans i lt in
    let r = number_in_range spans i s c.requires lt is in
    let ns = numbers_of (take i spans) in
    let p = c.loop-span.primary in
    let q = c.loop-span.secondary in
    rw (numbers_of-more spans i s lt is) (elim c.if-number-le64.branch [
      | then-number-le64 w ↦
          rw (w.primary-is, w.secondary-is) (marks_low ns p w.with_bit-primary.result q s.number
          c.loop-span.invariant r.0 w.if-number-le64.true w.with_bit-primary.ensures)
      | else-number-le64 w ↦
          rw (w.primary-is, w.secondary-is)
          (marks_high ns p w.with_bit-primary-else-number-le64.result q
          w.with_bit-secondary.result s.number c.loop-span.invariant (omega arith) r.1
          w.with_bit-primary-else-number-le64.ensures w.with_bit-secondary.ensures)
    ])
