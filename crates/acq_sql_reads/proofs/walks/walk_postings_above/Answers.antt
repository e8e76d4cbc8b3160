use Rattle.sqlite.specs.Held.{state}
use Rattle.indexmap.proofs.MapLemmas.{OnOk-map}
use Rattle.acq_sql_reads.proofs.WalkTextLemmas.{above_asks}
use Rattle.acq_sql_reads.proofs.Walking.{on_err_weaker, saw_first, saw_enough}
use Rattle.acq_sql_reads.proofs.PostingWalk.{above_list}
use Rattle.acq_sql_reads.proofs.FailingWalks.{above_excused}
use Rattle.acq_sql_reads.proofs.walks.walk_postings_above.Goals as goal

pub returns-clause-seen : goal.returns-clause-seen
returns-clause-seen g c clean t holds past =
    let old = state g.S.Store c.args.conn.now in
    let list = above_list old t c.args.merchant c.args.day c.args.number holds past in
    OnOk-map c.show_rows.result _ _
    (saw_enough list g.V.Visit.sees c.args.visitor.now c.show_rows.new.visitor)
    (rw (c.day_value.ensures, c.to_bytes-merchant.ensures.value, c.number_or_greatest.ensures) at
    (c.show_rows.ensures.seen clean list.ask.begins))

pub returns-clause-begun : goal.returns-clause-begun
returns-clause-begun g c clean t holds past =
    let old = state g.S.Store c.args.conn.now in
    let list = above_list old t c.args.merchant c.args.day c.args.number holds past in
    on_err_weaker c.show_rows.result
    (saw_first list g.V.Visit.sees c.args.visitor.now c.show_rows.new.visitor)
    (rw (c.day_value.ensures, c.to_bytes-merchant.ensures.value, c.number_or_greatest.ensures) at
    (c.show_rows.ensures.begun clean list.ask.begins))

pub returns-clause-looks : goal.returns-clause-looks
returns-clause-looks g c = c.show_rows.ensures.looks above_asks.begins

pub returns-clause-fails : goal.returns-clause-fails
returns-clause-fails g c clean t at past free =
    above_excused (state g.S.Store c.args.conn.now) (state g.S.Store c.show_rows.new.conn)
    c.show_rows.result t at past.0 free c.args.merchant c.args.day c.args.number past.1
    (rw (c.day_value.ensures, c.to_bytes-merchant.ensures.value, c.number_or_greatest.ensures) at
    (c.show_rows.ensures.fails clean above_asks.begins))

pub returns-clause-shown : goal.returns-clause-shown
returns-clause-shown g c = c.show_rows.ensures.shown
