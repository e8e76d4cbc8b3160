-- What decided: the element of a request that a reason is about, and what it was compared with (own
-- profile).
use Rattle.std.specs.Prelude.{ℕ, List, [], ◌++◌, codes, Option, Some, None, if◌then◌else◌}
use Rattle.std.specs.Fmt.{decimal}
use Rattle.iso_codec.specs.Message.{IsoMessage}
use Rattle.day_totals.specs.Day.{date_text_of}
use Rattle.acq_message.specs.Elements.{has, text_at}
use Rattle.acq_core.specs.declared.merchant.Merchant.{Merchant}
use Rattle.acq_core.specs.Known.{Known, Prior}
use Rattle.acq_reasons.specs.declared.reason.Reason.{Reason}
use Rattle.acq_reasons.specs.declared.reason.Reason.TheVariants as reason
use Rattle.acq_show.specs.Contents.{content_shown}

-- a line of what decided
abbrev pub detail : List ℕ → List ℕ → List ℕ
detail name text = codes "    " ++ name ++ codes ": " ++ text ++ codes "\n"

unfoldable pub element_name : ℕ → List ℕ
element_name n = codes "element " ++ decimal n

-- ---- an element

-- the one that the card number is taken from
abbrev pub card_element : IsoMessage → ℕ
card_element m = if has m 2 then 2 else 35

-- the element that a reason is about, if it is about one
abbrev pub decisive : IsoMessage → Reason → Option ℕ
decisive m reason.BadRemainder = Some 95
decisive m reason.UnknownMerchant = Some 42
decisive m reason.UnknownTerminal = Some 41
decisive m reason.OtherTransaction = Some 3
decisive m reason.OtherCurrency = Some 49
decisive m reason.UnknownNetworkCode = Some 70
decisive m reason.AmountOutOfRange = Some 4
decisive m reason.AboveHold = Some 4
decisive m reason.OtherAmount = Some 4
decisive m reason.NothingTaken = Some 95
decisive m reason.InvalidCard = Some (card_element m)
decisive m reason.ExpiredCard = Some (card_element m)
decisive m reason.NoRange = Some (card_element m)
decisive m reason.BadReference = Some 37
decisive m reason.NoSuchReference = Some 37
decisive m reason.NotAHold = Some 37
decisive m reason.HoldWaits = Some 37
decisive m reason.HoldReversedEarly = Some 37
decisive m reason.HoldDeclined = Some 37
decisive m reason.HoldExpired = Some 37
decisive m reason.HoldEnded = Some 37
decisive m reason.NoOriginal = Some 90
decisive m reason.OtherAcquirer = Some 90
decisive m reason.OriginalWaits = Some 90
decisive m reason.OriginalRefused = Some 90
decisive m reason.OriginalDeclined = Some 90
decisive m reason.OriginalEnded = Some 90
decisive m reason.OriginalLowered = Some 90
decisive m reason.OriginalReversed = Some 90
decisive m reason.NoSuchDay = Some 15
decisive m other = None

-- what a person is shown of its content
unfoldable pub shown : ℕ → List ℕ → List ℕ
shown n text = content_shown n text

abbrev pub element_line : IsoMessage → ℕ → List ℕ
element_line m n = detail (element_name n) (shown n (text_at m n))

abbrev pub element_detail : IsoMessage → Option ℕ → List ℕ
element_detail m None = []
element_detail m (Some n) = element_line m n

-- ---- what it was compared with

abbrev pub currency_detail : Option Merchant → List ℕ
currency_detail None = []
currency_detail (Some merchant) = detail (codes "the merchant's currency") merchant.currency

abbrev pub amount_detail : List ℕ → Option Prior → List ℕ
amount_detail name None = []
amount_detail name (Some p) = detail name (decimal p.amount)

-- the last second of a hold, if it has one
abbrev pub second_detail : Option ℕ → List ℕ
second_detail None = []
second_detail (Some second) = detail (codes "the hold's last second") (decimal second)

abbrev pub hold_end_detail : Option Prior → List ℕ
hold_end_detail None = []
hold_end_detail (Some p) = second_detail p.hold_end

-- the expiry, where it isn't the track's, and the day
unfoldable pub expiry_line : IsoMessage → List ℕ
expiry_line m = if has m 14 then element_line m 14 else []

unfoldable pub day_line : ℕ → List ℕ
day_line today = detail (codes "the business day") (date_text_of today)

abbrev pub expiry_lines : ℕ → IsoMessage → List ℕ
expiry_lines today m = expiry_line m ++ day_line today

abbrev pub compared : Known → IsoMessage → Reason → List ℕ
compared k m reason.OtherCurrency = currency_detail k.merchant
compared k m reason.AboveHold = amount_detail (codes "the hold's amount") k.referred
compared k m reason.OtherAmount = amount_detail (codes "the original's amount") k.original
compared k m reason.NothingTaken = amount_detail (codes "the original's amount") k.original
compared k m reason.ExpiredCard = expiry_lines k.today m
compared k m reason.HoldExpired = hold_end_detail k.referred
compared k m reason.DayFull = detail (codes "messages that a day admits") (decimal k.limit)
compared k m other = []
