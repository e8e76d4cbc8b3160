use Rattle.std.proofs.Common.{◌≡◌, sym, ap, ◌∙◌, ◌++◌, List, ℕ, length, take, append_assoc}
use Rattle.std.proofs.lemmas.List.{take_all}
use Rattle.iso_codec.specs.declared.span.Span.{Span}
use Rattle.iso_codec.specs.Message.{body, spelled}
use Rattle.iso_codec.specs.Span.{element_at, elements_in}
use Rattle.iso_codec.proofs.SpanElements.{span_at, span_at_is, span_within}
use Rattle.iso_codec.proofs.SpanElements.{element_fits, body-more}
use Rattle.iso_codec.proofs.encoding.push_body.Goals as goal

pub bytes_at-requires : goal.bytes_at-requires
bytes_at-requires c =
    let spans = c.args.spans.now in
    let i = c.loop-span.span-index in
    let lt = c.loop-span-test.true in
    span_within (length c.args.bytes.now) spans i (span_at spans i) c.requires.within lt
    (span_at_is spans i lt)

pub push_element-requires : goal.push_element-requires
push_element-requires c =
    let spans = c.args.spans.now in
    let i = c.loop-span.span-index in
    rw c.bytes_at.ensures (element_fits c.args.bytes.now spans i (span_at spans i) c.requires.each
    c.loop-span-test.true (span_at_is spans i c.loop-span-test.true))

pub returns-in_err-push_element-clause-grows : goal.returns-in_err-push_element-clause-grows
returns-in_err-push_element-clause-grows c =
    let front = body (elements_in c.args.bytes.now (take c.loop-span.span-index c.args.spans.now))
    in
    let more = c.in_err-push_element.ensures.grows in (
      front ++ more.0,
      more.1 ∙ ap (λ (x : List ℕ). x ++ more.0) c.loop-span.invariant
          ∙ append_assoc c.args.out.now.items front more.0,
    )

pub loop-span-preserved : goal.loop-span-preserved
loop-span-preserved c =
    let out = c.args.out.now.items in
    let spans = c.args.spans.now in
    let bytes = c.args.bytes.now in
    let i = c.loop-span.span-index in
    let s = span_at spans i in
    let lt = c.loop-span-test.true in
    let front = body (elements_in bytes (take i spans)) in
    let here : (s.number, c.bytes_at.result.now) ≡ element_at bytes s =
    ap (λ (t : List ℕ). (s.number, t)) c.bytes_at.ensures in
    c.in_ok-push_element.ensures.ok
    ∙ ap (λ (x : List ℕ). x ++ spelled (s.number, c.bytes_at.result.now)) c.loop-span.invariant
    ∙ ap (λ (e : ℕ × List ℕ). (out ++ front) ++ spelled e) here
    ∙ append_assoc out front (spelled (element_at bytes s))
    ∙ ap (λ (x : List ℕ). out ++ x) (sym (body-more bytes spans i s lt (span_at_is spans i lt)))

pub returns-clause-ok : goal.returns-clause-ok
returns-clause-ok c =
    let spans = c.args.spans.now in
    let i = c.loop-span.span-index in
    c.loop-span.invariant
    ∙ ap (λ (x : List Span). c.args.out.now.items ++ body (elements_in c.args.bytes.now x))
    (take_all i spans c.loop-span-test.false)

pub returns-clause-grows : goal.returns-clause-grows
returns-clause-grows c =
    let i = c.loop-span.span-index in
    (body (elements_in c.args.bytes.now (take i c.args.spans.now)), c.loop-span.invariant)
