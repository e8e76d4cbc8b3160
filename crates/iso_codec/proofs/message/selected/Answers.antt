use Rattle.std.proofs.Common.{◌≡◌, sym, ap, ◌∙◌, ◌<◌, ◌++◌, ◌∷◌, [], List, ℕ, length, take, arith}
use Rattle.std.specs.List.{filter}
use Rattle.std.proofs.lemmas.List.{take_all}
use Rattle.iso_codec.specs.declared.span.Span.{Span}
use Rattle.iso_codec.specs.Message.{is_among}
use Rattle.iso_codec.specs.Span.{element_at, elements_in}
use Rattle.iso_codec.proofs.SpanElements.{span_at, span_at_is, span_within}
use Rattle.iso_codec.proofs.SelectedElements.{more-kept, more-dropped}
use Rattle.iso_codec.proofs.message.selected.Goals as goal
use Rattle.iso_codec.proofs.message.selected.Goals.{then-wanted-span+in_ok-append}
use Rattle.iso_codec.proofs.message.selected.Goals.{else-wanted-span}

pub bytes_at-content-requires : goal.bytes_at-content-requires
bytes_at-content-requires c =
    let spans = c.args.spans.now in
    let i = c.loop-span.span-index in
    let lt = c.loop-span-test.true in
    span_within (length c.args.bytes.now) spans i (span_at spans i) c.requires lt
    (span_at_is spans i lt)

pub loop-span-preserved : goal.loop-span-preserved
loop-span-preserved c =
    let spans = c.args.spans.now in
    let bytes = c.args.bytes.now in
    let i = c.loop-span.span-index in
    let s = span_at spans i in
    let is = span_at_is spans i c.loop-span-test.true in
    let byte : s.number < 256 = omega arith in
    let marked = sym (c.marked-wanted.ensures.value s.number byte) in
    let earlier : List (ℕ × List ℕ) =
    filter (is_among c.args.numbers.now) (elements_in bytes (take i spans)) in
    elim c.if-wanted-span.branch [
      | then-wanted-span+in_ok-append w ↦
          let same : (s.number, w.bytes_at-content.result.now) ≡ element_at bytes s =
          ap (λ (t : List ℕ). (s.number, t)) w.bytes_at-content.ensures in
          let made = w.in_ok-append.ensures.ok
          ∙ ap (λ (l : List (ℕ × List ℕ)). l ++ (s.number, w.bytes_at-content.result.now) ∷ [])
          c.loop-span.invariant.elements
          ∙ ap (λ (x : ℕ × List ℕ). earlier ++ x ∷ []) same
          ∙ sym (more-kept (is_among c.args.numbers.now) bytes spans i s c.loop-span-test.true is
          (marked ∙ w.if-wanted-span.true)) in
          record {
            elements = rw (w.kept_spans-is, w.kept_bytes-is) made;
            within = rw (w.kept_spans-is, w.kept_bytes-is) w.in_ok-append.ensures.within;
          }
      | else-wanted-span w ↦
          let kept = c.loop-span.invariant.elements
          ∙ sym (more-dropped (is_among c.args.numbers.now) bytes spans i s c.loop-span-test.true is
          (marked ∙ w.if-wanted-span.false)) in
          record {
            elements = rw (w.kept_spans-is, w.kept_bytes-is) kept;
            within = rw (w.kept_spans-is, w.kept_bytes-is) c.loop-span.invariant.within;
          }
    ]

pub returns-clause-value : goal.returns-clause-value
returns-clause-value c =
    let spans = c.args.spans.now in
    let i = c.loop-span.span-index in
    c.loop-span.invariant.elements
    ∙ ap (λ (x : List Span). filter (is_among c.args.numbers.now) (elements_in c.args.bytes.now x))
    (take_all i spans c.loop-span-test.false)
