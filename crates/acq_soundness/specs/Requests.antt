-- Which requests are recorded, which are admitted, and which reverse others.
use Rattle.std.specs.Prelude.{Bool, true, false, Option, Some, None}
use Rattle.acq_message.specs.declared.service.Service.{Service}
use Rattle.acq_message.specs.declared.service.Service.TheVariants.{Authorization, Financial}
use Rattle.acq_message.specs.declared.service.Service.TheVariants.{Reversal, ReversalAdvice}
use Rattle.acq_message.specs.declared.service.Service.TheVariants.{NetworkManagement}
use Rattle.acq_message.specs.declared.request_message.RequestMessage.{RequestMessage}

-- the request that came, if it was one that is recorded
abbrev pub recordable : RequestMessage → Service → Option RequestMessage
recordable r NetworkManagement = None
recordable r service = Some r

-- the requests that are admitted when the issuer is asked
abbrev pub is_admissible : Service → Bool
is_admissible Authorization = true
is_admissible Financial = true
is_admissible service = false

-- either type of reversal
abbrev pub is_reversal : Service → Bool
is_reversal Reversal = true
is_reversal ReversalAdvice = true
is_reversal service = false
