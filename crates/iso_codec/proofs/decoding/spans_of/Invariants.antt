use Rattle.std.proofs.Common.{◌≡◌, true, false, length}
use Rattle.std.specs.List.{list_all}
use Rattle.iso_codec.specs.Message.{named, bit}
use Rattle.iso_codec.specs.Span.{elements_in, is_within}
use Rattle.iso_codec.proofs.ElementReading.{Goes}
use Rattle.iso_codec.proofs.decoding.spans_of.Given as goal

abbrev pub invariant-loop-number : goal.invariant-loop-number
invariant-loop-number l = record {
  goes : Goes l.bitmaps l.body (elements_in l.body l.spans.items) l.rest (named l.left);
  unset : bit l.left.primary 1 ≡ false;
  within : list_all (is_within (length l.body)) l.spans.items ≡ true;
}

abbrev pub decreases-loop-number : goal.decreases-loop-number
decreases-loop-number l = length (named l.left)
