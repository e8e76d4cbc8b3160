use Rattle.std.proofs.Common.{take, ◌≡◌}
use Rattle.std.specs.List.{list_all}
use Rattle.std.specs.Char.{is_ascii_hexdigit}
use Rattle.iso_codec.proofs.classes.all_hex.Given as goal

abbrev pub invariant-loop-b : goal.invariant-loop-b
invariant-loop-b l = l.all ≡ list_all is_ascii_hexdigit (take l.b-index l.text)
