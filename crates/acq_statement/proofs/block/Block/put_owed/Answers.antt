use Rattle.std.proofs.Common.{ap, refl}
use Rattle.acq_statement.specs.Lines.{owed_line}
use Rattle.acq_statement.proofs.Parts.{part_put}
use Rattle.acq_statement.proofs.block.Block.put_owed.Goals as goal

pub returns : goal.returns
returns g c =
    let form = c.args.self.now.lines.form in
    let looks = c.in_ok-totals.ensures.looks in
    part_put g.B.Book g.K.Sink.sent g.K.Sink.failures _ (owed_line form c.in_ok-totals.totals)
    _ _ _ _ c.put_made.result
    (λ honest opened. ap (owed_line form)
    (c.in_ok-totals.ensures.value (looks.stays_open refl honest opened)))
    (c.put_made.ensures _ c.owed.ensures) looks c.in_ok-totals.ensures.store
