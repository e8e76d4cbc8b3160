use Rattle.std.proofs.Common.{◌≡◌, sym, ap, ◌∙◌, arith, ◌<◌, ◌++◌, ◌∷◌, [], List, ℕ, length, take}
use Rattle.std.proofs.Common.{◌≤◌}
use Rattle.std.specs.Prelude.{slice_set}
use Rattle.std.proofs.lemmas.List.{take_all, length-set}
use Rattle.iso_codec.specs.Span.{element_at, elements_in}
use Rattle.iso_codec.proofs.SpanElements.{span_at, span_at_is, span_within}
use Rattle.iso_codec.proofs.SpanElements.{element_of_span, set_more-same}
use Rattle.iso_codec.proofs.SpanElements.{set_more-other, length-elements_in}
use Rattle.iso_codec.proofs.message.replaced.Goals as goal
use Rattle.iso_codec.proofs.message.replaced.Goals.{then-i-at+in_ok-append}
use Rattle.iso_codec.proofs.message.replaced.Goals.{else-i-at+in_ok-append-2}

pub bytes_at-kept-requires : goal.bytes_at-kept-requires
bytes_at-kept-requires c =
    let spans = c.args.spans.now in
    let i = c.loop-i.i in
    let lt = c.loop-i-test.true in
    span_within (length c.args.bytes.now) spans i (span_at spans i) c.requires lt
    (span_at_is spans i lt)

pub loop-i-preserved : goal.loop-i-preserved
loop-i-preserved c =
    let spans = c.args.spans.now in
    let bytes = c.args.bytes.now in
    let es = elements_in bytes spans in
    let at = c.args.at in
    let i = c.loop-i.i in
    let new : ℕ × List ℕ = (c.args.number, c.args.content.now) in
    let lt : i < length spans = omega (arith, c.loop-i-test.true) in
    let lt' : i < length es = omega (arith, length-elements_in bytes spans) in
    elim c.if-i-at.branch [
      | then-i-at+in_ok-append w ↦
          let made = w.in_ok-append.ensures.ok ∙ ap (λ (l : List (ℕ × List ℕ)). l ++ new ∷ [])
          c.loop-i.invariant.elements
          ∙ sym (set_more-same es at i new lt' w.if-i-at.true) in
          record {
            elements = rw (w.fresh_spans-is, w.fresh_bytes-is) made;
            within = rw
                (w.fresh_spans-is, w.fresh_bytes-is) w.in_ok-append.ensures.within;
          }
      | else-i-at+in_ok-append-2 w ↦
          let s = span_at spans i in
          let kept : ℕ × List ℕ = element_at bytes s in
          let same : (s.number, w.bytes_at-kept.result.now) ≡ kept =
          ap (λ (t : List ℕ). (s.number, t)) w.bytes_at-kept.ensures in
          let made = w.in_ok-append-2.ensures.ok
          ∙ ap (λ (l : List (ℕ × List ℕ)). l ++ (s.number, w.bytes_at-kept.result.now) ∷ [])
          c.loop-i.invariant.elements
          ∙ ap (λ (x : ℕ × List ℕ). take i (slice_set es at new) ++ x ∷ []) same
          ∙ sym (set_more-other es at i new kept lt' w.if-i-at.false
          (element_of_span bytes spans i s kept lt (span_at_is spans i lt))) in
          record {
            elements = rw (w.fresh_spans-is, w.fresh_bytes-is) made;
            within = rw
                (w.fresh_spans-is, w.fresh_bytes-is) w.in_ok-append-2.ensures.within;
          }
    ]

pub returns-clause-value : goal.returns-clause-value
returns-clause-value c =
    let spans = c.args.spans.now in
    let bytes = c.args.bytes.now in
    let es = elements_in bytes spans in
    let new : ℕ × List ℕ = (c.args.number, c.args.content.now) in
    let whole : length (slice_set es c.args.at new) ≤ c.loop-i.i =
    let past = c.loop-i-test.false in
    omega (arith, past, length-set es c.args.at new, length-elements_in bytes spans) in
    c.loop-i.invariant.elements ∙ take_all c.loop-i.i (slice_set es c.args.at new) whole
