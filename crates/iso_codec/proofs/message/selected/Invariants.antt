use Rattle.std.proofs.Common.{take, ◌≡◌, true, length}
use Rattle.std.specs.List.{list_all, filter}
use Rattle.iso_codec.specs.Message.{is_among}
use Rattle.iso_codec.specs.Span.{elements_in, is_within}
use Rattle.iso_codec.proofs.message.selected.Given as goal

abbrev pub invariant-loop-span : goal.invariant-loop-span
invariant-loop-span l = record {
  elements : elements_in l.kept_bytes.items l.kept_spans.items
      ≡ filter (is_among l.numbers) (elements_in l.bytes (take l.span-index l.spans));
  within : list_all (is_within (length l.kept_bytes.items)) l.kept_spans.items ≡ true;
}
