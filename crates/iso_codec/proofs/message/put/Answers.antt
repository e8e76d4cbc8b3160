use Rattle.std.proofs.Common.{◌≡◌, sym, ap, subst, ◌∙◌, arith, ◌<◌, [], List, ℕ, length}
use Rattle.std.specs.Prelude.{slice_set}
use Rattle.std.proofs.lemmas.Result.{on_ok_weaker}
use Rattle.iso_codec.specs.declared.span.Span.{Span}
use Rattle.iso_codec.specs.Span.{elements_in}
use Rattle.iso_codec.proofs.ElementPlaces.{with_content-same, with_content-new}
use Rattle.iso_codec.proofs.SpanElements.{element_of_span, place_in, length-elements_in}
use Rattle.iso_codec.proofs.message.put.Goals as goal
use Rattle.iso_codec.proofs.message.put.Goals.{else-at-len-via-then-at-len+else-index-number}
use Rattle.iso_codec.proofs.message.put.Goals.{else-at-len-via-else-at-len}

pub add-requires-clause-place : goal.add-requires-clause-place
add-requires-clause-place c =
    let spans = c.args.spans.now.items in
    let p = place_in [] c.as_slice.result.now spans c.args.number c.place-at.result
    c.as_slice.ensures.value
    (c.place-at.ensures []) in
    omega (arith, p.within, length-elements_in [] spans)

pub returns-in_ok-fresh_spans-clause-ok : goal.returns-in_ok-fresh_spans-clause-ok
returns-in_ok-fresh_spans-clause-ok c =
    let spans = c.args.spans.now.items in
    let bytes = c.args.bytes.now.items in
    let n = c.args.number in
    let at = c.place-at.result in
    let text = c.args.content.now in
    let d : ℕ × List ℕ = (0, []) in
    let p = place_in bytes c.as_slice.result.now spans n at c.as_slice.ensures.value
    (c.place-at.ensures bytes) in
    let lt : at < length spans = omega (arith, c.len.ensures, c.if-at-len.true) in
    let lt' : at < length (elements_in bytes spans) = omega (arith, length-elements_in bytes spans)
    in
    let same = ap (λ (e : ℕ × List ℕ). e.0)
    (element_of_span bytes spans at c.index.result.now d lt c.index.ensures)
    ∙ c.if-index-number.true in
    let made = subst (λ (bs : List ℕ). elements_in c.in_ok-fresh_spans.fresh_bytes.items
    c.in_ok-fresh_spans.fresh_spans.items ≡ slice_set (elements_in bs spans) at (n, text))
    c.as_slice-then-index-number-2.ensures.value
    (subst (λ (ss : List Span). elements_in c.in_ok-fresh_spans.fresh_bytes.items
    c.in_ok-fresh_spans.fresh_spans.items
    ≡ slice_set (elements_in c.as_slice-then-index-number-2.result.now ss) at (n, text))
    c.as_slice-then-index-number.ensures.value c.in_ok-fresh_spans.ensures.value) in
    made ∙ with_content-same (elements_in bytes spans) n at text d p lt' same

pub returns-else-at-len-clause-ok : goal.returns-else-at-len-clause-ok
returns-else-at-len-clause-ok c =
    let spans = c.args.spans.now.items in
    let bytes = c.args.bytes.now.items in
    let n = c.args.number in
    let at = c.place-at.result in
    let d : ℕ × List ℕ = (0, []) in
    let p = place_in bytes c.as_slice.result.now spans n at c.as_slice.ensures.value
    (c.place-at.ensures bytes) in
    let new = with_content-new (elements_in bytes spans) n at c.args.content.now d p (λ lt'.
    let lt : at < length spans = omega (arith, length-elements_in bytes spans) in
    elim c.else-at-len.branch [
      | else-at-len-via-then-at-len+else-index-number w ↦ λ same. w.if-index-number.false
          (sym (ap (λ (e : ℕ × List ℕ). e.0)
          (element_of_span bytes spans at w.index.result.now d lt w.index.ensures))
          ∙ same)
      | else-at-len-via-else-at-len w ↦ absurd (omega (arith, c.len.ensures, w.if-at-len.false))
    ]) in
    on_ok_weaker c.add.result (λ h. h ∙ new) c.add.ensures.ok
