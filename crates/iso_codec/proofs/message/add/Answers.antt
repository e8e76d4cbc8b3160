use Rattle.std.proofs.Common.{length, refl, arith}
use Rattle.iso_codec.specs.declared.span.Span.{Span}
use Rattle.iso_codec.proofs.SpanElements.{insert_span, insert_within, IsBehind, within_same}
use Rattle.iso_codec.proofs.message.add.Goals as goal

pub returns-in-Ok-clause-ok : goal.returns-in-Ok-clause-ok
returns-in-Ok-clause-ok c =
    let bytes = c.make_room.new.bytes.items in
    let spans = c.make_room.new.spans.items in
    let content = c.args.content.now in
    let span : Span =
    record { number = c.args.number; start = c.len-start.result; len = length content } in
    let behind : IsBehind bytes content span = record {
      start_is = omega
          (arith, c.len-start.ensures);
      len_is = refl;
    } in
    let stand = within_same c.args.bytes.now.items bytes c.args.spans.now.items spans
    c.make_room.ensures.bytes
    c.make_room.ensures.spans c.requires.stand in
    rw (
      c.in_ok-extend_from_slice.ensures.items,
      c.in-Ok.ensures.items,
      ← c.make_room.ensures.bytes,
      ←
          c.make_room.ensures.spans,
    )
    (insert_span bytes content spans c.args.at span behind stand)

pub returns-in-Ok-clause-within : goal.returns-in-Ok-clause-within
returns-in-Ok-clause-within c =
    let bytes = c.make_room.new.bytes.items in
    let spans = c.make_room.new.spans.items in
    let content = c.args.content.now in
    let span : Span =
    record { number = c.args.number; start = c.len-start.result; len = length content } in
    let behind : IsBehind bytes content span = record {
      start_is = omega
          (arith, c.len-start.ensures);
      len_is = refl;
    } in
    let stand = within_same c.args.bytes.now.items bytes c.args.spans.now.items spans
    c.make_room.ensures.bytes
    c.make_room.ensures.spans c.requires.stand in
    rw (c.in_ok-extend_from_slice.ensures.items, c.in-Ok.ensures.items)
    (insert_within bytes content spans c.args.at span behind stand)
