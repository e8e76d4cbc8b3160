use Rattle.std.proofs.Common.{◌≡◌, ◌++◌, codes}
use Rattle.std.proofs.lemmas.Result.{on_ok_weaker}
use Rattle.std.specs.Fmt.{decimal}
use Rattle.day_totals.specs.Digits.{zero_padded}
use Rattle.card_no.specs.CardNumbers.{masked_of}
use Rattle.acq_out.proofs.PutTexts.{put_in_turn}
use Rattle.acq_out.proofs.output_lines.put_query.Goals as goal

pub returns : goal.returns
returns c =
    let query = c.args.query.now in
    let space = codes " " in
    let turn = put_in_turn c.args.line.now.items (codes "ask ") query.merchant space
    (zero_padded 12 query.reference)
    space (masked_of query.card) space (decimal query.amount) space query.issuer in
    let one : c.put_both.new.line.items ≡ c.args.line.now.items
    ++ (codes "ask " ++ query.merchant) =
    rw (← c.to_bytes.ensures.value) c.in_ok-put_both.ensures in
    let two : c.put_both-2.new.line.items ≡ c.put_both.new.line.items
    ++ (space ++ zero_padded 12 query.reference) =
    rw (← c.text.ensures) c.in_ok-put_both-2.ensures in
    let three : c.put_both-3.new.line.items ≡ c.put_both-2.new.line.items
    ++ (space ++ masked_of query.card) =
    rw (← c.masked.ensures, ← c.as_bytes.ensures.value) c.in_ok-put_both-3.ensures in
    let four : c.put_both-4.new.line.items ≡ c.put_both-3.new.line.items
    ++ (space ++ decimal query.amount) =
    rw (← c.number.ensures.value, ← c.format.ensures.text, ← c.as_bytes-2.ensures.value)
    c.in_ok-put_both-4.ensures in
    on_ok_weaker c.put_both-5.result (λ last.
    let five : c.put_both-5.new.line.items ≡ c.put_both-4.new.line.items
    ++ (space ++ query.issuer) =
    rw (← c.as_bytes-3.ensures) last in
    rw (five, four, three, two, one) turn) c.put_both-5.ensures
