use Rattle.std.proofs.Common.{take, ◌≡◌, true, length}
use Rattle.std.specs.Prelude.{slice_set}
use Rattle.std.specs.List.{list_all}
use Rattle.iso_codec.specs.Span.{elements_in, is_within}
use Rattle.iso_codec.proofs.message.replaced.Given as goal

abbrev pub invariant-loop-i : goal.invariant-loop-i
invariant-loop-i l = record {
  elements : elements_in l.fresh_bytes.items l.fresh_spans.items
      ≡ take l.i (slice_set (elements_in l.bytes l.spans) l.at (l.number, l.content));
  within : list_all (is_within (length l.fresh_bytes.items)) l.fresh_spans.items ≡ true;
}
