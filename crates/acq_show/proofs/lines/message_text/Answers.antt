use Rattle.std.proofs.Common.{◌≡◌, ℕ, List, ◌++◌, ap, subst, ◌∙◌, arith}
use Rattle.std.specs.Prelude.{flat_map}
use Rattle.acq_show.specs.Shown.{type_line, element_line}
use Rattle.acq_show.proofs.ElementsInTurn.{below, lines_begin, lines_more, lines_same, lines_end}
use Rattle.acq_show.proofs.lines.message_text.Goals as goal
use Rattle.acq_show.proofs.lines.message_text.Goals.{in-Some+in_ok-put_element, in_default}

pub loop-number-init : goal.loop-number-init
loop-number-init c =
    let m = c.args.message.now in
    lines_begin element_line m c.put_type.new.text.items (type_line m.kind) c.requires
    (c.in_ok-put_type.ensures ∙ ap (λ (x : List ℕ). x ++ type_line c.kind.result)
    c.new-text.ensures.items
    ∙ ap type_line c.kind.ensures)

pub loop-number-preserved : goal.loop-number-preserved
loop-number-preserved c =
    let m = c.args.message.now in
    let n = c.loop-number.number in
    let old = c.loop-number.text.items in
    let front = type_line m.kind in
    elim c.match-get.branch [
      | in-Some+in_ok-put_element w ↦
          lines_more element_line m n old c.match-get.text.items front w.in-Some.content.now
          c.requires
          w.in-Some.ensures.value c.loop-number.invariant
          (ap (λ text. text.items) w.text-is ∙ w.in_ok-put_element.ensures)
      | in_default w ↦
          ap (λ text. text.items) w.text-is
          ∙ lines_same element_line m n old front c.requires w.in_default.ensures.value
          c.loop-number.invariant
    ]

pub returns : goal.returns
returns c =
    let m = c.args.message.now in
    let all : c.loop-number.number ≡ 129 = omega arith in
    lines_end element_line m c.loop-number.text.items (type_line m.kind) c.requires
    (subst (λ (n : ℕ). c.loop-number.text.items ≡ type_line m.kind ++ flat_map element_line
    (below n m.elements)) all
    c.loop-number.invariant)
