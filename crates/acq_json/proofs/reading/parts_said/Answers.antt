use Rattle.std.proofs.Common.{◌≡◌, ◌∙◌, length, sym, rules}
use Rattle.std.specs.Vec.{vec_len}
use Rattle.json.specs.Value.{members_view, value_view}
use Rattle.acq_json.proofs.PartsRead.{keys_count, not_two, two_parts}
use Rattle.acq_json.proofs.reading.parts_said.Goals as goal

pub returns-then-len-ne2 : goal.returns-then-len-ne2
returns-then-len-ne2 c =
    let es = c.in_ok-members_of.field-0.now.items in
    let size : vec_len c.in_ok-members_of.field-0.now ≡ length es = search rules in
    not_two (value_view c.args.value.now) (members_view es) c.in_ok-members_of.ensures
    (λ two. c.if-len-ne2.true (c.len.ensures ∙ size ∙ sym (keys_count es) ∙ two))

pub returns : goal.returns
returns c =
    let es = c.in_ok-members_of.field-0.now.items in
    let size : vec_len c.in_ok-members_of.field-0.now ≡ length es = search rules in
    two_parts (value_view c.args.value.now) (members_view es)
    (members_view c.in_ok-elements.elements.now.items) (value_view c.in_ok-get.field-0.now)
    (value_view c.in_ok-get-2.field-0.now) c.in_ok-kind.kind.now c.in_ok-members_of.ensures
    (keys_count es ∙ sym size ∙ sym c.len.ensures ∙ c.if-len-ne2.false) c.in_ok-get.ensures
    c.in_ok-kind.ensures c.in_ok-get-2.ensures c.in_ok-elements.ensures
