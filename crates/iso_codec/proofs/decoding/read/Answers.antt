use Rattle.std.proofs.Common.{sym, subst, List, ℕ}
use Rattle.iso_codec.specs.Span.{elements_in, IsStored}
use Rattle.iso_codec.proofs.FaultsOfParts.{reads_whole}
use Rattle.iso_codec.proofs.decoding.read.Goals as goal

pub with_spans-requires : goal.with_spans-requires
with_spans-requires c =
    let spans = c.in_ok-spans.spans.items in
    let bytes = c.in_ok-kind.body.now in
    subst (λ (b : List ℕ). IsStored c.in_ok-kind.kind b spans) (sym c.in_ok-bytes.ensures.items)
    (record {
      within = c.in_ok-spans.ensures.within;
      message = (reads_whole c.args.text.now c.in_ok-kind.kind bytes c.in_ok-kind.bitmaps
          (elements_in bytes spans)
          c.in_ok-kind.ensures.found c.in_ok-spans.ensures.found).is_message;
    })
