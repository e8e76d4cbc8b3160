-- What the host said to turns.
use Rattle.std.specs.Prelude.{List, [], map, Some, None}
use Rattle.acq_core.specs.declared.output.Output.{Output}
use Rattle.acq_front.specs.Talk.{reply_in}
use Rattle.acq_rounds.specs.Acts.{AnswerTo, Message, Told, Turn, query_in}
use Rattle.acq_rounds.specs.declared.said.Said as said
use Rattle.acq_rounds.specs.declared.said.Said.TheVariants as variant
use Rattle.acq_rounds.specs.declared.turn.Turn as taken
use Rattle.acq_rounds.specs.declared.turn.Turn.TheVariants as turn

-- the query that is still to be answered, and the reply, if one of them was said
abbrev pub told_at : Output → Told
told_at output = record { waits = query_in output; said = reply_in output }

abbrev pub told_by : said.Said → Told
told_by (variant.Settled settled) = record { waits = None; said = reply_in settled.output }
told_by (variant.Asked query) = record { waits = Some query; said = [] }

abbrev pub told_by_all : List said.Said → List Told
told_by_all said = map told_by said

-- the turn that was brought
abbrev pub turn_in : taken.Turn → Turn
turn_in (turn.Message message) = Message message.items
turn_in (turn.Answer query) = AnswerTo query.now

abbrev pub turns_in : List taken.Turn → List Turn
turns_in turns = map turn_in turns
