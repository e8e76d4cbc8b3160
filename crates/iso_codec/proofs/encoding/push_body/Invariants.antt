use Rattle.std.proofs.Common.{take, ◌≡◌, ◌++◌}
use Rattle.iso_codec.specs.Message.{body}
use Rattle.iso_codec.specs.Span.{elements_in}
use Rattle.iso_codec.proofs.encoding.push_body.Given as goal

abbrev pub invariant-loop-span : goal.invariant-loop-span
invariant-loop-span l = l.out.items ≡ l.fn.out.items
    ++ body (elements_in l.bytes (take l.span-index l.spans))
