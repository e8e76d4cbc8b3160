use Rattle.std.proofs.Common.{◌≡◌, true, take}
use Rattle.std.specs.List.{list_all}
use Rattle.acq_json.specs.Said.{is_byte}
use Rattle.acq_json.proofs.elements.as_bytes.Given as goal

abbrev pub invariant-loop-character : goal.invariant-loop-character
invariant-loop-character l = record {
  same : l.bytes.items ≡ take l.character-index l.characters;
  each : list_all is_byte (take l.character-index l.characters) ≡ true;
}
