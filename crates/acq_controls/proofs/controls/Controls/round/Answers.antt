use Rattle.std.proofs.Common.{◌<◌, ◌∙◌, [], arith, length, map, refl, subst}
use Rattle.std.proofs.Common.{sym}
use Rattle.std.proofs.lemmas.List.{length-map}
use Rattle.acq_control.specs.declared.control_round.ControlRound.TheVariants.{Ended}
use Rattle.acq_front.specs.Stops.{left_of}
use Rattle.acq_front.proofs.StopsLeave.{none_stop}
use Rattle.acq_rounds.specs.Reaching.{Reaches}
use Rattle.acq_controls.specs.Aside.{aside_of, seen, seen_in}
use Rattle.acq_controls.specs.declared.control.Control.{Control}
use Rattle.acq_controls.proofs.Rounds.{emptied, is_back, is_free, then_left, was_there, went_ill}
use Rattle.acq_controls.proofs.Rounds.{went_well}
use Rattle.acq_controls.proofs.Staying.{GoesOn, go_none}
use Rattle.acq_controls.proofs.controls.Controls.round.Goals as goal

pub returns-then-place-len-clause-reaches : goal.returns-then-place-len-clause-reaches
returns-then-place-len-clause-reaches g c h o = record {
  events = [];
  are_such = go_none (g.B.Book.tables c.args.host.now) (aside_of c.args.self.now);
  tables = refl;
  stop = none_stop g.B.Book g.met.B.Book.settled g.met.B.Book.stored c.args.host.now o;
}

pub returns-in_default-clause-reaches : goal.returns-in_default-clause-reaches
returns-in_default-clause-reaches g c h o =
    let was = c.args.self.now in
    let old = g.B.Book.tables c.args.host.now in
    let same = emptied was.places.items c.args.place _ c.take.result c.take.new.self
    (c.take.ensures.value ∙ c.index_mut.ensures.value) c.in_default.is c.take.ensures.after in
    record {
      events = [];
      are_such = subst (λ items. GoesOn old (aside_of was)
          (record { count = was.count; ended = was.past.list; here = map seen_in items }) [])
          (sym same) (go_none old (aside_of was));
      tables = refl;
      stop = none_stop g.B.Book g.met.B.Book.settled g.met.B.Book.stored c.args.host.now o;
    }

pub returns-in-Ok-Ended-clause-reaches : goal.returns-in-Ok-Ended-clause-reaches
returns-in-Ok-Ended-clause-reaches g c h o =
    let was = c.args.self.now in
    let items = was.places.items in
    let i = c.args.place in
    let control : Control g.row.S.Denot =
    record { number = c.in-Some.control.number; exchange = c.round.new.self } in
    let within : i < length items = omega (
      arith,
      c.if-place-len.false,
      c.len.ensures,
      was.places.ok.0,
    ) in
    let there = was_there items i _ c.index_mut.result.now c.take.result c.in-Some.control within
    c.index_mut.ensures.value c.take.ensures.value c.in-Some.is in
    then_left (g.C.Clock.may_give c.args.clock.now) c.args.serving
    (g.B.Book.tables c.args.host.now) (left_of g.B.Book c.round.new.host) (aside_of was) i
    (seen c.in-Some.control) there (seen control) refl (aside_of c.note.new.self)
    (omega (arith, within, length-map items seen_in))
    (record {
      held = c.note.ensures.held;
      count = c.note.ensures.count;
      ended = c.note.ensures.ended;
      here = c.note.ensures.here ∙ is_free items i c.take.new.self c.take.ensures.after;
    })
    (went_well (g.C.Clock.may_give c.args.clock.now) c.args.serving
    (g.B.Book.tables c.args.host.now) (left_of g.B.Book c.round.new.host) (aside_of was) i
    (seen c.in-Some.control) there (seen control) refl Ended
    (rw c.in-Ok-Ended.field-0-is at (c.in-Ok-Ended.ensures.goes h o)))

pub returns-in-Ok : goal.returns-in-Ok
returns-in-Ok g c =
    let was = c.args.self.now in
    let items = was.places.items in
    let i = c.args.place in
    let old = g.B.Book.tables c.args.host.now in
    let left = left_of g.B.Book c.round.new.host in
    let control : Control g.row.S.Denot =
    record { number = c.in-Some.control.number; exchange = c.round.new.self } in
    let within : i < length items = omega (
      arith,
      c.if-place-len.false,
      c.len.ensures,
      was.places.ok.0,
    ) in
    let there = was_there items i _ c.index_mut.result.now c.take.result c.in-Some.control within
    c.index_mut.ensures.value c.take.ensures.value c.in-Some.is in
    record {
      reaches = λ h o. subst (λ places. Reaches old left (GoesOn old (aside_of was)
          (record { count = was.count; ended = was.past.list; here = places })))
          (sym (is_back items i c.take.new.self control))
          (went_well (g.C.Clock.may_give c.args.clock.now) c.args.serving old left (aside_of was) i
          (seen c.in-Some.control) there (seen control) refl c.in-Ok.round
          (c.in-Ok.ensures.goes h o));
      stays_open = c.in-Ok.ensures.stays_open;
      was_honest = c.in-Ok.ensures.was_honest;
      given_later = c.in-Ok.ensures.given_later;
      store = c.in-Ok.ensures.store;
    }

pub returns-in-Err-clause-reaches : goal.returns-in-Err-clause-reaches
returns-in-Err-clause-reaches g c h o =
    let was = c.args.self.now in
    let items = was.places.items in
    let i = c.args.place in
    let control : Control g.row.S.Denot =
    record { number = c.in-Some.control.number; exchange = c.round.new.self } in
    let within : i < length items = omega (
      arith,
      c.if-place-len.false,
      c.len.ensures,
      was.places.ok.0,
    ) in
    let there = was_there items i _ c.index_mut.result.now c.take.result c.in-Some.control within
    c.index_mut.ensures.value c.take.ensures.value c.in-Some.is in
    went_ill (g.C.Clock.may_give c.args.clock.now) c.args.serving
    (g.B.Book.tables c.args.host.now) (left_of g.B.Book c.round.new.host) (aside_of was) i
    (seen c.in-Some.control) there (seen control) refl (aside_of c.note-in-Err.new.self)
    (omega (arith, within, length-map items seen_in))
    (record {
      held = c.note-in-Err.ensures.held;
      count = c.note-in-Err.ensures.count;
      ended = c.note-in-Err.ensures.ended;
      here = c.note-in-Err.ensures.here ∙ is_free items i c.take.new.self c.take.ensures.after;
    })
    c.in-Err.fault (c.in-Err.ensures.goes h o) (c.in-Err.ensures.refused h o)
    c.in-Err.ensures.silent
