-- The response code that each reason gives (ISO 8583:1987, response code; when each is given: own
-- profile).
use Rattle.acq_message.specs.declared.response_code.ResponseCode.{ResponseCode}
use Rattle.acq_message.specs.declared.response_code.ResponseCode.TheVariants as code
use Rattle.acq_reasons.specs.declared.reason.Reason.{Reason}
use Rattle.acq_reasons.specs.declared.reason.Reason.TheVariants as reason

abbrev pub code_of : Reason → ResponseCode
code_of (reason.MissingElement n) = code.FormatError
code_of reason.MissingCard = code.FormatError
code_of (reason.Unverifiable n) = code.FormatError
code_of reason.TrackWithoutCard = code.FormatError
code_of reason.TwoCards = code.FormatError
code_of reason.BadRemainder = code.FormatError
code_of reason.UnknownMerchant = code.InvalidMerchant
code_of reason.UnknownTerminal = code.InvalidMerchant
code_of reason.OtherRequest = code.DuplicateTransmission
code_of reason.OtherTransaction = code.InvalidTransaction
code_of reason.OtherCurrency = code.InvalidTransaction
code_of reason.UnknownNetworkCode = code.InvalidTransaction
code_of reason.AmountOutOfRange = code.InvalidAmount
code_of reason.AboveHold = code.InvalidAmount
code_of reason.OtherAmount = code.InvalidAmount
code_of reason.NothingTaken = code.InvalidAmount
code_of reason.InvalidCard = code.InvalidCard
code_of reason.ExpiredCard = code.ExpiredCard
code_of reason.NoRange = code.NoSuchIssuer
code_of reason.DayFull = code.LimitExceeded
code_of reason.BadReference = code.RecordNotFound
code_of reason.NoSuchReference = code.RecordNotFound
code_of reason.NotAHold = code.RecordNotFound
code_of reason.HoldWaits = code.RecordNotFound
code_of reason.HoldReversedEarly = code.RecordNotFound
code_of reason.HoldDeclined = code.RecordNotFound
code_of reason.HoldExpired = code.RecordNotFound
code_of reason.HoldEnded = code.RecordNotFound
code_of reason.NoOriginal = code.RecordNotFound
code_of reason.OtherAcquirer = code.RecordNotFound
code_of reason.OriginalWaits = code.NoActionTaken
code_of reason.OriginalRefused = code.NoActionTaken
code_of reason.OriginalDeclined = code.NoActionTaken
code_of reason.OriginalEnded = code.NoActionTaken
code_of reason.OriginalLowered = code.NoActionTaken
code_of reason.OriginalReversed = code.NoActionTaken
code_of reason.NoSuchDay = code.ReconcileError
code_of reason.OutOfBalance = code.ReconcileError
code_of (reason.Declined text) = code.Declined text
code_of reason.NoAnswer = code.IssuerInoperative
