use Rattle.std.proofs.Common.{◌≡◌, drop}
use Rattle.json.specs.Value.{members_view}
use Rattle.acq_json.specs.Said.{with_members}
use Rattle.acq_json.proofs.elements.with_members.Given as goal

-- the members left go on from where those before led
abbrev pub invariant-loop-member : goal.invariant-loop-member
invariant-loop-member l =
    with_members l.line l.fn.message (members_view l.member-items)
    ≡ with_members l.line l.whole (members_view (drop l.member-index l.member-items))
