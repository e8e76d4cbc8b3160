-- Messages that get no reply.
use Rattle.std.specs.Prelude.{ℕ, List, Option, Some, None}
use Rattle.acq_core.specs.declared.output.Output.{Output}
use Rattle.acq_core.specs.declared.output.Output.TheVariants as output
use Rattle.acq_front.specs.declared.unanswered.Silence.{Silence}
use Rattle.acq_front.specs.declared.unanswered.Silence.TheVariants.{Late, Unserved, Waiting}
use Rattle.acq_front.specs.declared.unanswered.Unanswered.{Unanswered}

abbrev pub unanswered_for : List ℕ → Silence → Option Unanswered
unanswered_for kind why = Some (record { kind = kind; why = why })

-- a message of this type, to which the host said this, if that is no reply
abbrev pub unanswered_by : List ℕ → Output → Option Unanswered
unanswered_by kind (output.UnservedType type) = unanswered_for kind Unserved
unanswered_by kind output.Waiting = unanswered_for kind Waiting
unanswered_by kind output.Late = unanswered_for kind Late
unanswered_by kind other = None
