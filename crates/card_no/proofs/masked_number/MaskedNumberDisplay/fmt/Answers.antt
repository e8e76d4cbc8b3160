use Rattle.std.proofs.lemmas.Str.{IsUtf8-from_ascii}
use Rattle.card_no.proofs.masked_number.MaskedNumberDisplay.fmt.Goals as goal

pub unreachable-requires : goal.unreachable-requires
unreachable-requires g c =
    c.in_default.ensures.cases.0 (IsUtf8-from_ascii c.as_bytes.result.now c.as_bytes.ensures.ascii)
