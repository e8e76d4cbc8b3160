use Rattle.std.proofs.Common.{◌≡◌, string_bytes, take}
use Rattle.acq_json.specs.Written.{characters}
use Rattle.acq_json.proofs.members.characters.Given as goal

abbrev pub invariant-loop-byte : goal.invariant-loop-byte
invariant-loop-byte l = string_bytes l.text ≡ characters (take l.byte-index l.bytes)
