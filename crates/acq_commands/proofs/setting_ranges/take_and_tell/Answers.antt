use Rattle.std.proofs.Common.{◌∙◌, sym, ap, length}
use Rattle.std.proofs.Math.Seq.{take-length}
use Rattle.acq_core.specs.Tables.{tables_after}
use Rattle.acq_commands.proofs.setting_ranges.take_and_tell.Goals as goal

pub returns-in-Ok-clause-first : goal.returns-in-Ok-clause-first
returns-in-Ok-clause-first g c = λ h o opened.
    let events = c.args.events.now in
    let led = (rw c.in-Ok.is at c.take_each.ensures.taken) in (
      length events,
      led h o
          ∙ sym (ap (tables_after (g.B.Book.tables c.args.host.now)) (take-length events)),
    )
