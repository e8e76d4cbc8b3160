use Rattle.std.proofs.Common.{length, refl, arith}
use Rattle.iso_codec.specs.declared.span.Span.{Span}
use Rattle.iso_codec.proofs.SpanElements.{push_span, push_within, IsBehind}
use Rattle.iso_codec.proofs.message.append.Goals as goal

pub returns-clause-ok : goal.returns-clause-ok
returns-clause-ok c =
    let bytes = c.args.bytes.now.items in
    let content = c.args.content.now in
    let span : Span =
    record { number = c.args.number; start = c.len-start.result; len = length content } in
    let behind : IsBehind bytes content span =
    record { start_is = omega (arith, c.len-start.ensures); len_is = refl } in
    rw (c.in_ok-extend_from_slice.ensures.items, c.in_ok-push.ensures.items)
    (push_span bytes content c.args.spans.now.items span behind c.requires)

pub returns-clause-within : goal.returns-clause-within
returns-clause-within c =
    let bytes = c.args.bytes.now.items in
    let content = c.args.content.now in
    let span : Span =
    record { number = c.args.number; start = c.len-start.result; len = length content } in
    let behind : IsBehind bytes content span =
    record { start_is = omega (arith, c.len-start.ensures); len_is = refl } in
    rw (c.in_ok-extend_from_slice.ensures.items, c.in_ok-push.ensures.items)
    (push_within bytes content c.args.spans.now.items span behind c.requires)
