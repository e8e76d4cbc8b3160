-- Output lines (own profile): one for each output, which ends in a line feed.
use Rattle.std.specs.Prelude.{◌≡◌, ◌<◌, ℕ, List, ◌++◌, codes, length, take, Result, Ok, Err}
use Rattle.std.specs.Fmt.{decimal}
use Rattle.iso_codec.specs.FaultTexts.{number_of_fault, element_of_fault}
use Rattle.card_no.specs.CardNumbers.{masked_of}
use Rattle.card_no.specs.Prefix.{prefix_digits}
use Rattle.day_totals.specs.Digits.{zero_padded}
use Rattle.acq_core.specs.declared.query.Query.{Query}
use Rattle.acq_core.specs.declared.output.Output.{Output}
use Rattle.acq_core.specs.declared.output.Output.TheVariants as output
use Rattle.acq_out.specs.declared.out_fault.OutFault.{OutFault}
use Rattle.acq_out.specs.declared.out_fault.OutFault.TheVariants.{Memory, Write}

-- a merchant's request: its name, the reference in twelve digits, the card masked, the amount in
-- plain decimal, the issuer
abbrev pub query_words : Query → List ℕ
query_words query =
    query.merchant ++ codes " " ++ zero_padded 12 query.reference ++ codes " "
    ++ masked_of query.card ++ codes " " ++ decimal query.amount ++ codes " " ++ query.issuer

-- the end of a range, with as many digits as a prefix has
abbrev pub end_digits : ℕ → List ℕ
end_digits prefix = zero_padded prefix_digits prefix

-- what a line says
abbrev pub words_of : Output → List ℕ
words_of (output.Reply merchant text) = codes "reply " ++ text
words_of (output.Ask query) = codes "ask " ++ query_words query
words_of output.Done = codes "done"
words_of output.BadRange = codes "refused 20"
words_of (output.Overlap range) =
    codes "refused 21 " ++ end_digits range.low ++ codes " " ++ end_digits range.high
words_of output.NoSuchRange = codes "refused 22"
words_of (output.Undecodable fault) =
    codes "refused 30 " ++ decimal (number_of_fault fault) ++ codes " "
    ++ decimal (element_of_fault fault)
words_of (output.UnservedType kind) = codes "refused 31 " ++ kind
words_of output.Waiting = codes "refused 32"
words_of output.Late = codes "refused 33"
words_of output.UnknownReference = codes "refused 34"
words_of output.AlreadyAnswered = codes "refused 35"
words_of output.AlreadyEnrolled = codes "refused 36"
words_of output.NoSuchMerchant = codes "refused 37"
words_of output.LastDay = codes "refused 38"

-- an output's line
abbrev pub line_of : Output → List ℕ
line_of output = words_of output ++ codes "\n"

-- The line of an output went out; or nothing, for want of memory; or its first n bytes.
abbrev pub WritesLine : Output → List ℕ → List ℕ → Result (Unit {0}) OutFault → Type 0
WritesLine output old new (Ok u) = new ≡ old ++ line_of output
WritesLine output old new (Err Memory) = new ≡ old
WritesLine output old new (Err (Write n)) =
    (n < length (line_of output)) × (new ≡ old ++ take n (line_of output))
WritesLine output old new (Err _) = ⊥
