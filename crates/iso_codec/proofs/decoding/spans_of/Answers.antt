use Rattle.std.proofs.Common.{sym, ◌∙◌, ap, subst, arith, ◌≡◌, ◌++◌, ◌∷◌, ◌-◌, [], List, ℕ, true}
use Rattle.std.proofs.Common.{length, take, append_assoc, inr, refl}
use Rattle.std.specs.List.{list_all}
use Rattle.std.proofs.lemmas.Bool.{eqb-false}
use Rattle.std.proofs.lemmas.List.{map_push}
use Rattle.iso_codec.specs.declared.span.Span.{Span}
use Rattle.iso_codec.specs.Content.{prefix_size}
use Rattle.iso_codec.specs.Message.{named, body}
use Rattle.iso_codec.specs.Span.{element_at, elements_in, is_within}
use Rattle.iso_codec.proofs.ElementReading.{Goes, goes_none, goes_on, all_push}
use Rattle.std.proofs.lemmas.Result.{err_from_is_err_and}
use Rattle.iso_codec.proofs.FaultsOfParts.{trailing_fault, known_next, content_fault}
use Rattle.iso_codec.proofs.FaultsOfParts.{awaits_element}
use Rattle.iso_codec.proofs.SpanElements.{content_between, between_within}
use Rattle.iso_codec.proofs.decoding.spans_of.Goals as goal

pub loop-number-preserved : goal.loop-number-preserved
loop-number-preserved c =
    let front = c.args.body.now in
    let old = c.loop-number.spans.items in
    let es = elements_in front old in
    let rest = c.loop-number.rest.now in
    let n = c.in-Some.number in
    let format = c.in-Some-format_at.format in
    let content = c.in_ok-content.content.now in
    let after = c.in_ok-content.after.now in
    let found = c.in_ok-content.ensures.found in
    let digits = take (prefix_size format.form) rest in
    let span : Span = record {
      number = n;
      start = length front - length after - length content;
      len = length content;
    } in
    let next = subst (λ (ns : List ℕ). Goes c.args.bitmaps.now front es rest ns)
    c.in-Some.ensures.first
    c.loop-number.invariant.goes in
    let more = goes_on c.args.bitmaps.now front es rest (named c.take_first.new.self) n format
    content after next
    (sym c.format_at.ensures ∙ c.in-Some-format_at.is) found in
    let parts : front ≡ (body es ++ digits) ++ (content ++ after) =
    next.parts ∙ ap (λ (x : List ℕ). body es ++ x) found.parts
    ∙ sym (append_assoc (body es) digits (content ++ after)) in
    let here : element_at front span ≡ (n, content) =
    ap (λ (t : List ℕ). (n, t)) (content_between front (body es ++ digits) content after parts) in
    let e : elements_in front c.push.new.self.items ≡ es ++ (n, content) ∷ [] =
    ap (elements_in front) c.in_ok-push.ensures.items ∙ map_push (element_at front) old span
    ∙ ap (λ (x : ℕ × List ℕ). es ++ x ∷ []) here in
    let fits : is_within (length front) span ≡ true =
    between_within front (body es ++ digits) content after n parts in
    let all : list_all (is_within (length front)) (old ++ span ∷ []) ≡ true =
    all_push (is_within (length front)) old span c.loop-number.invariant.within fits in
    record {
      goes = rw e more;
      unset = c.take_first.ensures.unset;
      within =
          rw c.in_ok-push.ensures.items all;
    }

pub returns-then-not-is_empty-clause-fault : goal.returns-then-not-is_empty-clause-fault
returns-then-not-is_empty-clause-fault c =
    let front = c.args.body.now in
    let es = elements_in front c.loop-number.spans.items in
    let end = subst (λ (ns : List ℕ). Goes c.args.bitmaps.now front es c.loop-number.rest.now ns)
    c.in_default.ensures.first c.loop-number.invariant.goes in
    inr (λ text kind o.
    trailing_fault text kind front c.loop-number.rest.now c.args.bitmaps.now es o end
    (let ne = eqb-false _ _ (sym c.is_empty.ensures ∙ c.if-not-is_empty.true) in omega arith))

pub returns-clause-within : goal.returns-clause-within
returns-clause-within c = c.loop-number.invariant.within

pub loop-number-smaller : goal.loop-number-smaller
loop-number-smaller c = rw c.in-Some.ensures.first (omega arith)

pub unreachable-requires : goal.unreachable-requires
unreachable-requires c =
    let front = c.args.body.now in
    let es = elements_in front c.loop-number.spans.items in
    let next = subst (λ (ns : List ℕ). Goes c.args.bitmaps.now front es c.loop-number.rest.now ns)
    c.in-Some.ensures.first c.loop-number.invariant.goes in
    known_next c.args.bitmaps.now front c.loop-number.rest.now (named c.take_first.new.self) es
    c.in-Some.number next c.requires (sym c.format_at.ensures ∙ c.in_default-format_at.is)

pub loop-number-init : goal.loop-number-init
loop-number-init c =
    let ns = named c.of_elements-left.result in
    record {
      goes = rw c.in_ok-spans.ensures.items
          (goes_none c.args.bitmaps.now c.args.body.now ns (sym c.of_elements-left.ensures.same));
      unset = c.of_elements-left.ensures.unset;
      within = rw c.in_ok-spans.ensures.items refl;
    }

pub returns-in_err-content-clause-fault : goal.returns-in_err-content-clause-fault
returns-in_err-content-clause-fault c =
    let p = err_from_is_err_and c.from_residual-in_err-content.result
    c.from_residual-in_err-content.ensures.1 in
    let front = c.args.body.now in
    let rest = c.loop-number.rest.now in
    let n = c.in-Some.number in
    let format = c.in-Some-format_at.format in
    let later = named c.take_first.new.self in
    let es = elements_in front c.loop-number.spans.items in
    let next = subst (λ (ns : List ℕ). Goes c.args.bitmaps.now front es rest ns)
    c.in-Some.ensures.first c.loop-number.invariant.goes in
    rw (p.1, p.2) (inr (λ text kind o. content_fault text n format rest _
    (awaits_element text kind front rest later c.args.bitmaps.now es n format o next c.requires
    (sym c.format_at.ensures ∙ c.in-Some-format_at.is))
    c.in_err-content.ensures.fault))
