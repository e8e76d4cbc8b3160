use Rattle.std.proofs.Common.{◌≡◌, ◌+◌, ◌≤◌, List, length}
use Rattle.iso_codec.specs.Message.{IsoMessage}
use Rattle.acq_make.specs.Written.{written}
use Rattle.acq_make.proofs.SaidInTurn.{SaysFirst}
use Rattle.acq_make.proofs.saying.make_messages.Given as goal

-- the messages that the lines so far ended were written
abbrev pub invariant-loop-rest : goal.invariant-loop-rest
invariant-loop-rest l = record {
  so : (messages : List IsoMessage) × SaysFirst l.text messages l.draft l.number l.rest
      × (l.out.items ≡ written l.form messages);
  short : l.number + length l.rest ≤ length l.text;
}

abbrev pub decreases-loop-rest : goal.decreases-loop-rest
decreases-loop-rest l = length l.rest
