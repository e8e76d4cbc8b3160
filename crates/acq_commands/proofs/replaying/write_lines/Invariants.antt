-- the lines so far went out
use Rattle.std.proofs.Common.{◌≡◌, ◌++◌, take}
use Rattle.std.specs.List.{flat_map}
use Rattle.acq_out.specs.OutputLines.{line_of}
use Rattle.acq_commands.proofs.replaying.write_lines.Given as goal

abbrev pub invariant-loop-one : goal.invariant-loop-one
invariant-loop-one g l =
    (g.K.Sink.sent l.output
    ≡ g.K.Sink.sent l.fn.output ++ flat_map line_of (take l.one-index l.said))
    × (g.K.Sink.failures l.output ≡ g.K.Sink.failures l.fn.output)
