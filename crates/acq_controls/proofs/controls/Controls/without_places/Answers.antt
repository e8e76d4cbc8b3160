use Rattle.std.proofs.Common.{[], map, subst, sym}
use Rattle.acq_controls.specs.Aside.{seen_in}
use Rattle.acq_controls.specs.Following.{ControlsFollow}
use Rattle.acq_controls.proofs.Staying.{follow_first}
use Rattle.acq_controls.proofs.controls.Controls.without_places.Goals as goal

pub returns : goal.returns
returns g c t =
    subst (λ items. ControlsFollow t []
    (record { count = 0; ended = c.new-2.result.list; here = map seen_in items }))
    (sym c.new.ensures.items)
    (follow_first t c.new-2.result.list [] c.new-2.ensures.list tt)
