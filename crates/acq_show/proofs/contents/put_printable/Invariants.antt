use Rattle.std.proofs.Common.{◌≡◌, ◌++◌, map, take}
use Rattle.acq_show.specs.Contents.{byte_shown}
use Rattle.acq_show.proofs.contents.put_printable.Given as goal

abbrev pub invariant-loop-b : goal.invariant-loop-b
invariant-loop-b l = l.text.items ≡ l.fn.text.items ++ map byte_shown (take l.b-index l.content)
