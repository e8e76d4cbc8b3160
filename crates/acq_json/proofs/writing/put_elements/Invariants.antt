use Rattle.acq_json.proofs.MembersInTurn.{members_below}
use Rattle.acq_json.specs.Written.{Behind}
use Rattle.acq_json.proofs.writing.put_elements.Given as goal

abbrev pub invariant-loop-number : goal.invariant-loop-number
invariant-loop-number l =
    Behind l.initial.writer l.writer (members_below l.form l.number l.message.elements)
