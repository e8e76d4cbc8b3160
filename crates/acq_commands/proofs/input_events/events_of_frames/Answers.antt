use Rattle.std.proofs.Common.{◌++◌, ◌∷◌, []}
use Rattle.acq_link.proofs.FramesInOrder.{taken_more, taken_none}
use Rattle.acq_commands.proofs.Explanations.{came_more, came_none}
use Rattle.acq_commands.proofs.input_events.events_of_frames.Goals as goal

pub loop-rest-init : goal.loop-rest-init
loop-rest-init c = (
  [],
  taken_none c.args.frames.now,
  came_none c.args.moment c.new-events.result.items c.new-events.ensures.items,
)

pub loop-rest-preserved : goal.loop-rest-preserved
loop-rest-preserved c =
    let so = c.loop-rest.invariant in
    let message = c.in_ok-message.message.now in
    let front = c.in_ok-message.ensures.found in (
      so.0 ++ message ∷ [],
      taken_more c.args.frames.now c.loop-rest.rest.now message c.in_ok-message.after.now so.0 so.1
          front.whole front.fits,
      came_more c.args.moment so.0 message c.in_ok-text.text c.loop-rest.events.items
          c.add.new.events.items so.2 c.in_ok-text.ensures c.in_ok-add.ensures,
    )
