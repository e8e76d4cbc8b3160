-- The checks of a request in their order, and those that it passes (own profile): the checks are
-- the decision's.
use Rattle.std.specs.Prelude.{ℕ, Bool, true, false, ◌&&◌, List, [], ◌∷◌, ◌++◌, take, codes}
use Rattle.std.specs.Prelude.{flat_map, Option, Some, None, is_some}
use Rattle.std.specs.List.{position}
use Rattle.std.specs.Str.{bytes_eq}
use Rattle.acq_message.specs.declared.service.Service.{Service}
use Rattle.acq_message.specs.declared.service.Service.TheVariants.{Authorization, Financial}
use Rattle.acq_message.specs.declared.service.Service.TheVariants.{Completion, Reversal}
use Rattle.acq_message.specs.declared.service.Service.TheVariants.{ReversalAdvice, Reconciliation}
use Rattle.acq_message.specs.declared.service.Service.TheVariants.{NetworkManagement}
use Rattle.acq_message.specs.declared.request_message.RequestMessage.{RequestMessage}
use Rattle.acq_message.specs.Services.{is_recordable}
use Rattle.acq_core.specs.Known.{Known}
use Rattle.acq_reasons.specs.declared.reason.Reason.{Reason}
use Rattle.acq_reasons.specs.declared.reason.Reason.TheVariants as reason
use Rattle.acq_explain.specs.declared.check.Check.{Check}
use Rattle.acq_explain.specs.declared.check.Check.TheVariants as check
use Rattle.acq_explain.specs.Details.{detail}

-- each in a word or two
abbrev pub word_of : Check → List ℕ
word_of check.Elements = codes "elements"
word_of check.Merchant = codes "merchant"
word_of check.Terminal = codes "terminal"
word_of check.Key = codes "key"
word_of check.Transaction = codes "transaction"
word_of check.Currency = codes "currency"
word_of check.Amount = codes "amount"
word_of check.Card = codes "card"
word_of check.Expiry = codes "expiry"
word_of check.Range = codes "range"
word_of check.Hold = codes "hold"
word_of check.HeldAmount = codes "held amount"
word_of check.Original = codes "original"
word_of check.Reversible = codes "reversible"
word_of check.SameAmount = codes "same amount"
word_of check.Remainder = codes "remainder"
word_of check.Day = codes "day"
word_of check.Totals = codes "totals"
word_of check.NetworkCode = codes "network code"
word_of check.Room = codes "room"

-- no two have the same word
abbrev pub same_check : Check → Check → Bool
same_check one other = bytes_eq (word_of other) (word_of one)

-- ---- in their order

abbrev pub admission_checks : List Check
admission_checks =
    check.Elements ∷ check.Merchant ∷ check.Terminal ∷ check.Key ∷ check.Transaction
    ∷ check.Currency ∷ check.Amount ∷ check.Card ∷ check.Expiry ∷ check.Range ∷ check.Room ∷ []

abbrev pub completion_checks : List Check
completion_checks =
    check.Elements ∷ check.Merchant ∷ check.Terminal ∷ check.Key ∷ check.Transaction
    ∷ check.Currency ∷ check.Amount ∷ check.Hold ∷ check.HeldAmount ∷ check.Room ∷ []

abbrev pub reversal_checks : List Check
reversal_checks =
    check.Elements ∷ check.Merchant ∷ check.Terminal ∷ check.Key ∷ check.Original
    ∷ check.Reversible ∷ check.SameAmount ∷ check.Remainder ∷ check.Room ∷ []

abbrev pub reconciliation_checks : List Check
reconciliation_checks =
    check.Elements ∷ check.Merchant ∷ check.Terminal ∷ check.Key ∷ check.Day ∷ check.Totals ∷ []

abbrev pub network_checks : List Check
network_checks = check.Elements ∷ check.NetworkCode ∷ []

abbrev pub checks_of : Service → List Check
checks_of Authorization = admission_checks
checks_of Financial = admission_checks
checks_of Completion = completion_checks
checks_of Reversal = reversal_checks
checks_of ReversalAdvice = reversal_checks
checks_of Reconciliation = reconciliation_checks
checks_of NetworkManagement = network_checks

-- ---- the check that a request doesn't pass

-- the one that a reason is of; what an issuer says is of none
abbrev pub check_of : Reason → Option Check
check_of (reason.MissingElement n) = Some check.Elements
check_of reason.MissingCard = Some check.Elements
check_of (reason.Unverifiable n) = Some check.Elements
check_of reason.TrackWithoutCard = Some check.Elements
check_of reason.TwoCards = Some check.Elements
check_of reason.BadRemainder = Some check.Elements
check_of reason.UnknownMerchant = Some check.Merchant
check_of reason.UnknownTerminal = Some check.Terminal
check_of reason.OtherRequest = Some check.Key
check_of reason.OtherTransaction = Some check.Transaction
check_of reason.OtherCurrency = Some check.Currency
check_of reason.UnknownNetworkCode = Some check.NetworkCode
check_of reason.AmountOutOfRange = Some check.Amount
check_of reason.AboveHold = Some check.HeldAmount
check_of reason.OtherAmount = Some check.SameAmount
check_of reason.NothingTaken = Some check.Remainder
check_of reason.InvalidCard = Some check.Card
check_of reason.ExpiredCard = Some check.Expiry
check_of reason.NoRange = Some check.Range
check_of reason.DayFull = Some check.Room
check_of reason.BadReference = Some check.Hold
check_of reason.NoSuchReference = Some check.Hold
check_of reason.NotAHold = Some check.Hold
check_of reason.HoldWaits = Some check.Hold
check_of reason.HoldReversedEarly = Some check.Hold
check_of reason.HoldDeclined = Some check.Hold
check_of reason.HoldExpired = Some check.Hold
check_of reason.HoldEnded = Some check.Hold
check_of reason.NoOriginal = Some check.Original
check_of reason.OtherAcquirer = Some check.Original
check_of reason.OriginalWaits = Some check.Reversible
check_of reason.OriginalRefused = Some check.Reversible
check_of reason.OriginalDeclined = Some check.Reversible
check_of reason.OriginalEnded = Some check.Reversible
check_of reason.OriginalLowered = Some check.Reversible
check_of reason.OriginalReversed = Some check.Reversible
check_of reason.NoSuchDay = Some check.Day
check_of reason.OutOfBalance = Some check.Totals
check_of (reason.Declined text) = None
check_of reason.NoAnswer = None

-- a request whose key is recorded
abbrev pub has_used_key : Known → RequestMessage → Bool
has_used_key k r = is_recordable r.service && is_some k.recorded

-- by its reason; one that has none and a used key is a repeat, which is decided by its key
abbrev pub failed : Option Reason → Bool → Option Check
failed (Some why) used_key = check_of why
failed None true = Some check.Key
failed None false = None

-- ---- the checks that it passes

abbrev pub up_to : Option ℕ → List Check → List Check
up_to None checks = checks
up_to (Some end) checks = take end checks

-- those before this one, or all
abbrev pub before : Option Check → List Check → List Check
before None checks = checks
before (Some last) checks = up_to (position (same_check last) checks) checks

-- of a request with this reason, or none
unfoldable pub passed : Known → RequestMessage → Option Reason → List Check
passed k r why = before (failed why (has_used_key k r)) (checks_of r.service)

abbrev pub later_word : Check → List ℕ
later_word c = codes ", " ++ word_of c

unfoldable pub listed : List Check → List ℕ
listed [] = []
listed (c ∷ cs) = word_of c ++ flat_map later_word cs

unfoldable pub checks_line : List Check → List ℕ
checks_line checks = detail (codes "passed") (listed checks)

abbrev pub passed_line : Known → RequestMessage → Option Reason → List ℕ
passed_line k r why = checks_line (passed k r why)
