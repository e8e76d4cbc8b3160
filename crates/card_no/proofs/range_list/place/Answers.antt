use Rattle.card_no.proofs.FirstInOrder.{put_behind}
use Rattle.card_no.proofs.range_list.place.Goals as goal

pub returns-clause-put : goal.returns-clause-put
returns-clause-put c =
    let below = c.begun_below.ensures in
    put_behind c.args.ranges.now c.args.range.now c.begun_below.result below.within below.begun
    below.later
