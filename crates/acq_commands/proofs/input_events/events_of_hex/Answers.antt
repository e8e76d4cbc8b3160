use Rattle.std.proofs.Common.{◌∙◌, ℕ, List, ap, sym, subst}
use Rattle.std.proofs.lemmas.Result.{IfOk-weaker}
use Rattle.acq_link.specs.Frames.{Frames}
use Rattle.acq_link.proofs.FramesReadOnce.{frames_once}
use Rattle.acq_commands.specs.Explain.{came_at}
use Rattle.acq_commands.proofs.input_events.events_of_hex.Goals as goal

pub returns : goal.returns
returns c =
    let held = c.in_ok-frames.ensures.frames in
    IfOk-weaker c.events_of_frames.result _ _
    (λ events so.
    let whole : Frames c.as_slice.result.now held.0 =
    subst (λ (bytes : List ℕ). Frames bytes held.0) (sym c.as_slice.ensures.value) held.2 in (
      held.0,
      held.1,
      so.2 ∙ ap (came_at c.args.moment) (frames_once c.as_slice.result.now so.0 held.0 so.1 whole),
    ))
    c.events_of_frames.ensures
