use Rattle.std.proofs.Common.{◌++◌}
use Rattle.std.specs.Prelude.{codes}
use Rattle.std.proofs.lemmas.Result.{on_ok_weaker}
use Rattle.day_totals.specs.Day.{date_text_of}
use Rattle.acq_show.proofs.PutLines.{on_ok_text}
use Rattle.acq_inquiry.specs.RequestLines.{start_of}
use Rattle.acq_inquiry.proofs.InTurn.{six_in_turn}
use Rattle.acq_inquiry.proofs.line_parts.put_start.Goals as goal

pub returns : goal.returns
unfolding start_of
returns c =
    let row = c.args.row.now in
    on_ok_weaker c.extend_from_slice-6.result
    (six_in_turn c.args.text.now.items c.extend_from_slice.new.self.items
    c.extend_from_slice-2.new.self.items c.extend_from_slice-3.new.self.items
    c.extend_from_slice-4.new.self.items c.extend_from_slice-5.new.self.items
    c.extend_from_slice-6.new.self.items
    (date_text_of row.day) (codes " ") row.key.terminal (codes " ") row.key.trace (codes " ")
    (rw (c.date_text.ensures) at c.in_ok-extend_from_slice.ensures.items)
    c.in_ok-extend_from_slice-2.ensures.items
    (rw (c.to_bytes.ensures.value) at c.in_ok-extend_from_slice-3.ensures.items)
    c.in_ok-extend_from_slice-4.ensures.items
    (rw (c.to_bytes-2.ensures.value) at c.in_ok-extend_from_slice-5.ensures.items))
    (on_ok_text c.extend_from_slice-6.result c.extend_from_slice-6.new.self.items
    (c.extend_from_slice-5.new.self.items ++ codes " ") c.extend_from_slice-5.new.self.items
    c.extend_from_slice-6.ensures.items)
