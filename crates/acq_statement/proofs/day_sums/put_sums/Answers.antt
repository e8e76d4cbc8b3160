use Rattle.std.proofs.Common.{true, false, ◌∷◌, [], refl, rules}
use Rattle.std.specs.Prelude.{flat_map}
use Rattle.acq_statement.specs.DaySums.{sums_header, sums_record}
use Rattle.acq_statement.proofs.Parts.{part_put, part_then, part_stopped}
use Rattle.acq_statement.proofs.day_sums.put_sums.Goals as goal

pub returns-then-not-put : goal.returns-then-not-put
returns-then-not-put g c =
    part_stopped g.B.Book g.K.Sink.sent g.K.Sink.failures (λ t. sums_header)
    (λ t. flat_map (sums_record t (c.args.day ∷ []) c.args.merchants.now) c.args.currencies.now)
    _ _ _ _
    (part_put g.B.Book g.K.Sink.sent g.K.Sink.failures (λ t. sums_header) sums_header _ _ _ _
    false (λ honest opened. refl) c.if-not-put.ensures (search rules) refl)

pub returns : goal.returns
returns g c =
    let book = g.B.Book in
    let sent = g.K.Sink.sent in
    let failures = g.K.Sink.failures in
    let header = part_put book sent failures (λ t. sums_header) sums_header _ _ _ _
    true (λ honest opened. refl) c.if-not-put.ensures (search rules) refl in
    part_then book sent failures (λ t. sums_header) _ _ _ _ _ _ _ _ header c.put_each.ensures
