use Rattle.std.proofs.Common.{subst, sym}
use Rattle.card_no.specs.Ranges.{with_range}
use Rattle.acq_core.specs.Tables.{after, answered_row, followed_row, with_changed}
use Rattle.acq_book.specs.Fits.{Fits}
use Rattle.acq_recall.specs.Recalled.{Recalls}
use Rattle.acq_recall.proofs.RecalledRows.{answers, follows, merchants_stay, still_new}
use Rattle.acq_recall.proofs.recollection.Recollection.follow.Goals as goal

pub returns-in-AddMerchant : goal.returns-in-AddMerchant
returns-in-AddMerchant c t fits was =
    let is = c.make_room.ensures t was in
    subst (λ change. Recalls c.make_room.new.self (after t change)) (sym c.in-AddMerchant.is)
    (record {
      row = is.row;
      merchants = merchants_stay t.merchants c.in-AddMerchant.field-0 _ is.merchants;
      terminals = is.terminals;
      ranges = is.ranges;
      enrolled_counts = is.enrolled_counts;
      counts = is.counts;
      waiting = is.waiting;
    })

pub returns-in-AddRange : goal.returns-in-AddRange
returns-in-AddRange c t fits was =
    subst (λ change. Recalls c.forget_ranges.new.self (after t change)) (sym c.in-AddRange.is)
    (c.forget_ranges.ensures t (with_range t.ranges c.in-AddRange.field-0)
    (c.make_room.ensures t was))

pub returns-in-Answered : goal.returns-in-Answered
returns-in-Answered c t fits was =
    let a = c.in-Answered in
    subst (λ change. Recalls c.restate.new.self (after t change)) (sym a.is)
    (c.restate.ensures t (answered_row a.status a.reply a.hold_end)
    (answers a.status a.reply a.hold_end) (c.make_room.ensures t was))

pub returns-in-Follow : goal.returns-in-Follow
returns-in-Follow c t fits was =
    let f = c.in-Follow in
    let new = (subst (Fits t) f.is fits).0 in
    subst (λ change. Recalls c.add-in-Follow.new.self (after t change)) (sym f.is)
    (c.add-in-Follow.ensures
    (record t { requests = with_changed f.original (followed_row f.remains) t.requests })
    (still_new t.requests f.request f.original f.remains.status (followed_row f.remains)
    (follows f.remains) new.reference)
    (c.restate-in-Follow.ensures t (followed_row f.remains) (follows f.remains)
    (c.make_room.ensures t was)))
