use Rattle.std.proofs.Common.{◌≡◌, ◌++◌, take}
use Rattle.std.specs.List.{flat_map}
use Rattle.acq_page.specs.Pages.{escaped_byte}
use Rattle.acq_page.proofs.spelling.put_escaped.Given as goal

abbrev pub invariant-loop-byte : goal.invariant-loop-byte
invariant-loop-byte l =
    l.page.items ≡ l.fn.page.items ++ flat_map escaped_byte (take l.byte-index l.text)
