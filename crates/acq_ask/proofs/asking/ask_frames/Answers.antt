use Rattle.std.proofs.Common.{[], ◌++◌, ◌∷◌, append-nil, inr, refl, sym}
use Rattle.std.proofs.lemmas.Result.{err_from_is_err_and}
use Rattle.acq_link.proofs.FramesInOrder.{taken_none}
use Rattle.acq_ask.specs.Asking.{joined}
use Rattle.acq_ask.proofs.Turning.{frames_more, passed_more, silent_more, talk_of, took_more}
use Rattle.acq_ask.proofs.Turning.{took_none, turn_of}
use Rattle.acq_ask.proofs.asking.ask_frames.Goals as goal

pub loop-rest-init : goal.loop-rest-init
loop-rest-init g c = (
  talk_of [] [] [],
  [],
  sym (append-nil _),
  sym (append-nil _),
  sym (append-nil _),
  taken_none c.args.frames.now,
  took_none c.args.within c.new-held.result c.new-held.ensures,
  refl,
)

pub returns-in_err-silent : goal.returns-in_err-silent
returns-in_err-silent g c =
    let p = err_from_is_err_and c.from_residual-in_err-silent.result
    c.from_residual-in_err-silent.ensures.1 in
    let i = c.loop-rest.invariant in
    let turn = c.in_err-silent.ensures in (
      joined i.0 turn.0,
      passed_more _ _ _ i.0.sent turn.0.sent i.2 turn.1,
      passed_more _ _ _ i.0.came turn.0.came i.3 turn.2,
      passed_more _ _ _ i.0.shown turn.0.shown i.4 turn.3,
      rw (p.1, p.2)
          (record {
            turns = i.1;
            rest = c.loop-rest.held;
            before = i.0;
            held = c.loop-rest.rest.now;
            taken = i.5;
            took = i.6;
            stops = inr (
              turn.0,
              refl,
              record {
                message = c.in_ok-message.message.now;
                later = c.in_ok-message.after.now;
                after = c.take_turn.new.held;
                next = c.in_ok-message.ensures.found;
                stops = turn.4;
              },
            );
          }),
    )

pub loop-rest-preserved : goal.loop-rest-preserved
loop-rest-preserved g c =
    let i = c.loop-rest.invariant in
    let turn = c.in_ok-silent.ensures in
    let taken = turn.4 in
    let message = c.in_ok-message.message.now in (
      joined i.0 turn.0,
      i.1 ++ turn_of message taken.0 ∷ [],
      passed_more _ _ _ i.0.sent turn.0.sent i.2 turn.1,
      passed_more _ _ _ i.0.came turn.0.came i.3 turn.2,
      passed_more _ _ _ i.0.shown turn.0.shown i.4 turn.3,
      frames_more c.args.frames.now c.loop-rest.rest.now message c.in_ok-message.after.now i.1
          taken.0 i.5 c.in_ok-message.ensures.found,
      took_more c.args.within i.0 turn.0 i.1 message c.loop-rest.held c.take_turn.new.held taken.0
          i.6 taken.1 taken.2,
      silent_more i.1 message taken.0 c.loop-rest.silent c.in_ok-silent.field-0 i.7 taken.3,
    )
