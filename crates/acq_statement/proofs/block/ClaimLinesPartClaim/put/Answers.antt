use Rattle.std.proofs.Common.{true, false, refl, rules}
use Rattle.acq_statement.specs.Lines.{claimed_line, found_line}
use Rattle.acq_statement.proofs.Parts.{part_put, part_then, part_stopped}
use Rattle.acq_statement.proofs.block.ClaimLinesPartClaim.put.Goals as goal

pub returns-then-not-put_made : goal.returns-then-not-put_made
returns-then-not-put_made g c =
    let lines = c.args.self.now.lines in
    let claim = c.args.item.now in
    let first = claimed_line lines.form lines.merchant lines.day claim in
    let second = found_line lines.form lines.merchant lines.day claim in
    part_stopped g.B.Book g.K.Sink.sent g.K.Sink.failures (λ t. first) (λ t. second) _ _ _ _
    (part_put g.B.Book g.K.Sink.sent g.K.Sink.failures (λ t. first) first _ _ _ _ false
    (λ honest opened. refl) (c.if-not-put_made.ensures first c.claimed.ensures) (search rules) refl)

pub returns : goal.returns
returns g c =
    let lines = c.args.self.now.lines in
    let claim = c.args.item.now in
    let first = claimed_line lines.form lines.merchant lines.day claim in
    let second = found_line lines.form lines.merchant lines.day claim in
    part_then g.B.Book g.K.Sink.sent g.K.Sink.failures (λ t. first) (λ t. second) _ _ _ _ _ _ _
    (part_put g.B.Book g.K.Sink.sent g.K.Sink.failures (λ t. first) first _ _ _ _ true
    (λ honest opened. refl) (c.if-not-put_made.ensures first c.claimed.ensures) (search rules) refl)
    (part_put g.B.Book g.K.Sink.sent g.K.Sink.failures (λ t. second) second _ _ _ _ _
    (λ honest opened. refl) (c.put_made-2.ensures second c.found.ensures) (search rules) refl)
