use Rattle.std.proofs.Common.{◌≡◌, ◌+◌, ◌≤◌, List, length}
use Rattle.iso_codec.specs.Message.{IsoMessage}
use Rattle.acq_make.specs.Written.{written}
use Rattle.acq_json.proofs.SaidInTurn.{SaysFirst}
use Rattle.acq_json.proofs.reading.make_of_json.Given as goal

-- the messages of the lines so far were written
abbrev pub invariant-loop-rest : goal.invariant-loop-rest
invariant-loop-rest l = record {
  so : (messages : List IsoMessage) × SaysFirst l.text messages l.number l.rest
      × (l.out.items ≡ written l.form messages);
  short : l.number + length l.rest ≤ length l.text;
}

abbrev pub decreases-loop-rest : goal.decreases-loop-rest
decreases-loop-rest l = length l.rest
