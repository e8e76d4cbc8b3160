use Rattle.std.proofs.Common.{◌<◌, ◌∙◌, arith, length}
use Rattle.acq_controls.specs.Aside.{aside_of, seen}
use Rattle.acq_controls.proofs.Rounds.{is_free, leaves, was_there}
use Rattle.acq_controls.proofs.controls.Controls.part.Goals as goal

pub returns-in-Some : goal.returns-in-Some
returns-in-Some g c =
    let was = c.args.self.now in
    let items = was.places.items in
    let i = c.args.place in
    let within : i < length items = omega (
      arith,
      c.if-place-len.false,
      c.len.ensures,
      was.places.ok.0,
    ) in
    let there = was_there items i _ c.index_mut.result.now c.take.result c.in-Some.control within
    c.index_mut.ensures.value c.take.ensures.value c.in-Some.is in
    record {
      stays = leaves (aside_of was) i (seen c.in-Some.control) there (aside_of c.note.new.self)
          (record {
            held = c.note.ensures.held;
            count = c.note.ensures.count;
            ended = c.note.ensures.ended;
            here = c.note.ensures.here ∙ is_free items i c.take.new.self c.take.ensures.after;
          });
    }
