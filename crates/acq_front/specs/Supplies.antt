-- What clocks and issuers over memory still give.
use Rattle.std.specs.Prelude.{ℕ, List}
use Rattle.acq_message.specs.declared.verdict.Verdict.{Verdict}
use Rattle.acq_front.specs.declared.slice_clock.SliceClock.{SliceClock}
use Rattle.acq_front.specs.declared.slice_issuer.SliceIssuer.{SliceIssuer}

abbrev pub moments_of : SliceClock → List ℕ
moments_of c = c.moments.now

abbrev pub verdicts_of : SliceIssuer → List Verdict
verdicts_of i = i.verdicts.now
