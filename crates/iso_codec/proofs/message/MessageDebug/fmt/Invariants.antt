use Rattle.std.proofs.Common.{take, ◌++◌}
use Rattle.std.specs.Prelude.{codes}
use Rattle.std.specs.List.{flat_map}
use Rattle.std.specs.Fmt.{HasWritten, IsPlainFormatter}
use Rattle.iso_codec.proofs.ShownSizes.{shown_span}
use Rattle.iso_codec.proofs.message.MessageDebug.fmt.Given as goal

abbrev pub invariant-loop-span : goal.invariant-loop-span
invariant-loop-span g l =
    IsPlainFormatter l.fn.f → HasWritten g.W.Write.write_str_gives l.fn.f
    (codes "Message(" ++ (l.self.kind ++ flat_map shown_span (take l.span-index l.spans)))
    l.f
