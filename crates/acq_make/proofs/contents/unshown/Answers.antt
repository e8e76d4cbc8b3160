use Rattle.std.proofs.Common.{◌≡◌, ◌∙◌, sym, subst, true, false, ℕ, List}
use Rattle.std.specs.Prelude.{IfOk}
use Rattle.acq_make.proofs.Words.{put_first, unshown_is}
use Rattle.acq_make.proofs.contents.unshown.Goals as goal

pub returns-then-eq : goal.returns-then-eq
returns-then-eq c =
    unshown_is c.args.number c.args.places.now c.args.text.now c.in_ok-parts.parts.items
    c.as_slice-2.result.now true c.in_ok-parts.ensures
    (c.as_slice-2.ensures.value
    ∙ put_first c.args.number c.new-shown.result.items c.as_slice.result.now
    c.in_ok-parts.parts.items c.put_content.new.text.items c.new-shown.ensures.items
    c.as_slice.ensures.value c.in_ok-put_content.ensures)
    (sym c.if-eq.true ∙ c.eq.ensures)

pub returns : goal.returns
returns c =
    subst (λ (x : List ℕ). IfOk c.from_slice.result (λ content. content.items ≡ x))
    (unshown_is c.args.number c.args.places.now c.args.text.now c.in_ok-parts.parts.items
    c.as_slice-2.result.now false c.in_ok-parts.ensures
    (c.as_slice-2.ensures.value
    ∙ put_first c.args.number c.new-shown.result.items c.as_slice.result.now
    c.in_ok-parts.parts.items c.put_content.new.text.items c.new-shown.ensures.items
    c.as_slice.ensures.value c.in_ok-put_content.ensures)
    (sym c.if-eq.false ∙ c.eq.ensures))
    c.from_slice.ensures.items
