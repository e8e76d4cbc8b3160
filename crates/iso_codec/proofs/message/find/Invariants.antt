use Rattle.std.proofs.Common.{take, ◌≡◌, None}
use Rattle.iso_codec.specs.Message.{content_of}
use Rattle.iso_codec.specs.Span.{elements_in}
use Rattle.iso_codec.proofs.message.find.Given as goal

abbrev pub invariant-loop-span : goal.invariant-loop-span
invariant-loop-span l = content_of (elements_in l.bytes (take l.span-index l.spans)) l.number ≡ None
