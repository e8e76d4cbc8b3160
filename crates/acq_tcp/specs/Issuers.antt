-- What an issuer whose answers take their time may say.
use Rattle.acq_front.specs.Talk.{Saying, in_time}
use Rattle.acq_front.specs.declared.issuer.Issuer.{Ghosts}
use Rattle.acq_tcp.specs.declared.timed_issuer.TimedIssuer.{TimedIssuer}

module _ {I : Type 0} (issuers : Ghosts I) where
  -- the issuer that is asked
  abbrev pub asked_of : TimedIssuer I → I
  asked_of t = t.issuer.now

  -- what that one may say, or no answer
  abbrev pub says_of : TimedIssuer I → Saying
  says_of t = in_time (issuers.may_say (asked_of t))
