use Rattle.std.proofs.Common.{◌+◌, ◌-◌, ◌/◌, ◌%◌, length, drop, ◌∙◌}
use Rattle.acq_link.proofs.FilledFrames.{filled, sends}
use Rattle.acq_link.proofs.frame_sending.send_in.Goals as goal

pub returns-clause-sent : goal.returns-clause-sent
returns-clause-sent g c =
    let message = c.args.message.now in
    let is = filled (length message / 256) (length message % 256) (2 + length message - 2)
    c.copy_from_slice.new.self (drop 2 c.args.frame.now) c.copy_from_slice-2.new.self message
    (c.copy_from_slice.ensures.after ∙ c.length_of.ensures) c.copy_from_slice-2.ensures.after in
    sends message _ _ _ c.write_out.result is c.write_out.ensures.ok c.write_out.ensures.err
    c.write_out.ensures.short
