use Rattle.std.proofs.Common.{sym, ◌∙◌}
use Rattle.iso_codec.specs.Message.{named}
use Rattle.iso_codec.proofs.PlacesOfFaults.{leaves_none, leaves_all, leaves_fewer, leaves_fault}
use Rattle.iso_codec.proofs.PlacesOfFaults.{leaves_rest, leaves_end, no_format, content_missing}
use Rattle.iso_codec.proofs.fault_places.standing_from.Goals as goal

pub returns-in_default : goal.returns-in_default
returns-in_default c =
    leaves_none c.args.number c.args.text.now c.behind_type.result.now c.behind_type.ensures
    c.in_default.ensures

pub loop-lower-init : goal.loop-lower-init
loop-lower-init c = record {
  leaves = leaves_all c.args.number c.args.text.now c.behind_type.result.now c.in-Some.bitmaps
      c.of_elements-left.result c.in-Some.body.now c.behind_type.ensures c.in-Some.ensures
      c.of_elements-left.ensures.same;
  unset = c.of_elements-left.ensures.unset;
}

pub returns-then-lower-number : goal.returns-then-lower-number
returns-then-lower-number c =
    leaves_rest c.args.number c.in-Some-take_first.lower c.args.text.now (named c.loop-lower.left)
    (named c.take_first.new.self) c.loop-lower.rest.now c.loop-lower.invariant.leaves
    c.in-Some-take_first.ensures.first c.if-lower-number.true

pub returns-in_default-format_at : goal.returns-in_default-format_at
returns-in_default-format_at c =
    let m = c.in-Some-take_first.lower in
    let fault = no_format m c.loop-lower.rest.now
    (sym c.format_at.ensures ∙ c.in_default-format_at.is) in
    leaves_fault c.args.number m c.args.text.now (named c.loop-lower.left)
    (named c.take_first.new.self)
    c.loop-lower.rest.now fault.0 c.loop-lower.invariant.leaves c.in-Some-take_first.ensures.first
    c.if-lower-number.false fault.1

pub returns-in_default-content_at : goal.returns-in_default-content_at
returns-in_default-content_at c =
    let m = c.in-Some-take_first.lower in
    let fault = content_missing m c.in-Some-format_at.format c.loop-lower.rest.now
    c.in_default-content_at.field-0
    (sym c.format_at.ensures ∙ c.in-Some-format_at.is) c.in_default-content_at.ensures.fault in
    leaves_fault c.args.number m c.args.text.now (named c.loop-lower.left)
    (named c.take_first.new.self)
    c.loop-lower.rest.now fault.0 c.loop-lower.invariant.leaves c.in-Some-take_first.ensures.first
    c.if-lower-number.false fault.1

pub loop-lower-preserved : goal.loop-lower-preserved
loop-lower-preserved c = record {
  leaves = leaves_fewer c.args.number c.in-Some-take_first.lower c.args.text.now
      (named c.loop-lower.left)
      (named c.take_first.new.self) c.loop-lower.rest.now c.in-Ok.field-0-0.now c.in-Ok.after.now
      c.in-Some-format_at.format c.loop-lower.invariant.leaves c.in-Some-take_first.ensures.first
      c.if-lower-number.false (sym c.format_at.ensures ∙ c.in-Some-format_at.is)
      c.in-Ok.ensures.found;
  unset = c.take_first.ensures.unset;
}

pub returns : goal.returns
returns c =
    leaves_end c.args.number c.args.text.now (named c.loop-lower.left) c.loop-lower.rest.now
    c.loop-lower.invariant.leaves c.in_default-take_first.ensures.first
