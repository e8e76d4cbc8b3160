use Rattle.std.proofs.Common.{refl}
use Rattle.iso_codec.specs.Table.{format_of}
use Rattle.acq_message.proofs.AddedElements.{padded_fits}
use Rattle.acq_message.proofs.reconciliation_reply.with_counts.Goals as goal

pub with_content-requires : goal.with_content-requires
unfolding format_of
with_content-requires c = padded_fits 74 10 _ c.count_text.result refl c.count_text.ensures.text

pub with_content-requires-2 : goal.with_content-requires-2
unfolding format_of
with_content-requires-2 c = padded_fits 75 10 _ c.count_text-2.result refl c.count_text-2.ensures.text

pub with_content-requires-3 : goal.with_content-requires-3
unfolding format_of
with_content-requires-3 c = padded_fits 76 10 _ c.count_text-3.result refl c.count_text-3.ensures.text

pub with_content-requires-4 : goal.with_content-requires-4
unfolding format_of
with_content-requires-4 c = padded_fits 77 10 _ c.count_text-4.result refl c.count_text-4.ensures.text
