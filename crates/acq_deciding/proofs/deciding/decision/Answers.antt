-- What each event's own function ensures, in the arm that calls it.
use Rattle.std.proofs.Common.{refl}
use Rattle.acq_core.specs.Looking.{known_of}
use Rattle.acq_deciding.proofs.deciding.decision.Goals as goal

pub returns-in-Undecoded-clause-value : goal.returns-in-Undecoded-clause-value
returns-in-Undecoded-clause-value c = rw c.in-Undecoded.is refl

pub returns-in-Undecoded-clause-feasible : goal.returns-in-Undecoded-clause-feasible
returns-in-Undecoded-clause-feasible c = refl

pub returns-in-Unserved-clause-feasible : goal.returns-in-Unserved-clause-feasible
returns-in-Unserved-clause-feasible c = refl

pub returns-in-Malformed-clause-value : goal.returns-in-Malformed-clause-value
returns-in-Malformed-clause-value c = rw c.in-Malformed.is refl

pub returns-in-Malformed-clause-feasible : goal.returns-in-Malformed-clause-feasible
returns-in-Malformed-clause-feasible c = refl

pub returns-in-Requested-clause-value : goal.returns-in-Requested-clause-value
returns-in-Requested-clause-value c = rw c.in-Requested.is c.decision_of_request.ensures.value

pub returns-in-Requested-clause-feasible : goal.returns-in-Requested-clause-feasible
returns-in-Requested-clause-feasible c = c.decision_of_request.ensures.feasible

pub returns-in-Answered-clause-value : goal.returns-in-Answered-clause-value
returns-in-Answered-clause-value c = rw c.in-Answered.is c.decision_of_answer.ensures.value

pub returns-in-Answered-clause-feasible : goal.returns-in-Answered-clause-feasible
returns-in-Answered-clause-feasible c =
    c.decision_of_answer.ensures.feasible (known_of c.args.looked.now)

pub returns-in-CutOver-clause-value : goal.returns-in-CutOver-clause-value
returns-in-CutOver-clause-value c = rw c.in-CutOver.is c.decision_of_cutover.ensures.value

pub returns-in-CutOver-clause-feasible : goal.returns-in-CutOver-clause-feasible
returns-in-CutOver-clause-feasible c =
    c.decision_of_cutover.ensures.feasible (known_of c.args.looked.now) refl

pub returns-in-RangeAdded-clause-value : goal.returns-in-RangeAdded-clause-value
returns-in-RangeAdded-clause-value c = rw c.in-RangeAdded.is c.decision_of_new_range.ensures.value

pub returns-in-RangeAdded-clause-feasible : goal.returns-in-RangeAdded-clause-feasible
returns-in-RangeAdded-clause-feasible c =
    c.decision_of_new_range.ensures.feasible (known_of c.args.looked.now)

pub returns-in-RangeDropped-clause-value : goal.returns-in-RangeDropped-clause-value
returns-in-RangeDropped-clause-value c =
    rw c.in-RangeDropped.is c.decision_of_old_range.ensures.value

pub returns-in-RangeDropped-clause-feasible : goal.returns-in-RangeDropped-clause-feasible
returns-in-RangeDropped-clause-feasible c =
    c.decision_of_old_range.ensures.feasible (known_of c.args.looked.now)

pub returns-in-Enrolled-clause-value : goal.returns-in-Enrolled-clause-value
returns-in-Enrolled-clause-value c = rw c.in-Enrolled.is c.decision_of_enrolment.ensures.value

pub returns-in-Enrolled-clause-feasible : goal.returns-in-Enrolled-clause-feasible
returns-in-Enrolled-clause-feasible c =
    c.decision_of_enrolment.ensures.feasible (known_of c.args.looked.now)

pub returns-in-TerminalAdded-clause-value : goal.returns-in-TerminalAdded-clause-value
returns-in-TerminalAdded-clause-value c =
    rw c.in-TerminalAdded.is c.decision_of_terminal.ensures.value

pub returns-in-TerminalAdded-clause-feasible : goal.returns-in-TerminalAdded-clause-feasible
returns-in-TerminalAdded-clause-feasible c =
    c.decision_of_terminal.ensures.feasible (known_of c.args.looked.now)
