use Rattle.std.proofs.Common.{[], ◌++◌, ◌∷◌, append-nil, refl, sym}
use Rattle.acq_ask.proofs.CountedUp.{codes_more, going_first, going_on, one_more}
use Rattle.acq_ask.proofs.Turning.{passed_more}
use Rattle.acq_ask.proofs.repeating.send_all.Goals as goal

pub loop-init : goal.loop-init
loop-init g c = (
  [],
  [],
  [],
  sym (append-nil _),
  sym (append-nil _),
  sym (append-nil _),
  going_first c.args.message c.new-held.result c.new-held.ensures,
  refl,
)

pub loop-preserved : goal.loop-preserved
loop-preserved g c =
    let i = c.loop.invariant in
    let more = c.in_ok-send_once.ensures in
    let turn = more.4 in
    let reply = turn.0 in (
      i.0 ++ more.0,
      i.1 ++ more.1,
      i.2 ++ reply ∷ [],
      passed_more _ _ _ i.0 more.0 i.3 more.2,
      passed_more _ _ _ i.1 more.1 i.4 more.3,
      codes_more c.args.load.now.codes.items c.loop.load.codes.items
          c.send_once.new.load.codes.items i.2 reply i.5 turn.4,
      going_on c.args.message i.0 i.1 i.2 c.loop.message c.loop.held i.6
          c.send_once.new.message more.0 more.1 reply c.send_once.new.held turn.1 turn.2 turn.3,
      one_more i.2 reply c.loop.counter i.7,
    )
