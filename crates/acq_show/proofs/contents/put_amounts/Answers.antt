use Rattle.std.proofs.Common.{◌≡◌, ◌++◌, ap, length, ◌∙◌}
use Rattle.std.specs.Prelude.{codes}
use Rattle.std.proofs.lemmas.Result.{on_ok_weaker}
use Rattle.acq_show.specs.Contents.{part_shown}
use Rattle.acq_show.proofs.PutParts.{four_in_turn, amounts_of}
use Rattle.acq_show.proofs.contents.put_amounts.Goals as goal

pub returns : goal.returns
returns c =
    let old = c.args.text.now.items in
    let size : length c.args.content.now ≡ 42 = c.if-content-ne-AMOUNTS_LEN.false in
    let parts = amounts_of c.args.content.now c.split_at.result.0.now c.split_at.result.1.now
    c.split_at-2.result.0.now c.split_at-2.result.1.now c.split_at-3.result.0.now
    c.split_at-3.result.1.now size c.split_at.ensures.front c.split_at.ensures.back
    c.split_at-2.ensures.front c.split_at-2.ensures.back c.split_at-3.ensures.front
    c.split_at-3.ensures.back in
    on_ok_weaker c.put_part-4.result
    (λ last. four_in_turn old c.put_part.new.text.items c.put_part-2.new.text.items
    c.put_part-3.new.text.items c.put_part-4.new.text.items
    (part_shown (codes "amount ") c.split_at.result.0.now)
    (part_shown (codes ", settlement amount ") c.split_at-2.result.0.now)
    (part_shown (codes ", fee ") c.split_at-3.result.0.now)
    (part_shown (codes ", settlement fee ") c.split_at-3.result.1.now)
    c.in_ok-put_part.ensures c.in_ok-put_part-2.ensures c.in_ok-put_part-3.ensures last
    ∙ ap (λ t. old ++ t) parts)
    c.put_part-4.ensures
