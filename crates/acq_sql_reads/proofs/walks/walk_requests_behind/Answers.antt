use Rattle.std.proofs.Common.{arith}
use Rattle.sqlite.specs.Held.{state}
use Rattle.indexmap.proofs.MapLemmas.{OnOk-map}
use Rattle.acq_book.specs.Lookups.{requests_behind_at}
use Rattle.acq_sql_reads.proofs.WalkTextLemmas.{requests_behind_asks}
use Rattle.acq_sql_reads.proofs.Walking.{on_err_weaker, saw_first, saw_enough}
use Rattle.acq_sql_reads.proofs.RequestsBehind.{requests_behind_list, saw_none_behind}
use Rattle.acq_sql_reads.proofs.RequestsBehind.{saw_none_first}
use Rattle.acq_sql_reads.proofs.FailingWalks.{none_behind_excused, requests_behind_excused}
use Rattle.acq_sql_reads.proofs.walks.walk_requests_behind.Goals as goal

-- ---- behind more rows than have numbers

pub returns-then-rows-gt-GREATEST-clause-seen : goal.returns-then-rows-gt-GREATEST-clause-seen
returns-then-rows-gt-GREATEST-clause-seen g c clean t holds =
    let more = c.if-rows-gt-GREATEST.true in
    OnOk-map c.show_rows.result _ _
    (saw_none_behind (state g.S.Store c.args.conn.now) g.V.Visit.sees c.args.visitor.now
    c.show_rows.new.visitor t c.args.rows holds (omega (arith, more)))
    (rw c.number_value.ensures at (c.show_rows.ensures.seen clean requests_behind_asks.begins))

pub returns-then-rows-gt-GREATEST-clause-begun : goal.returns-then-rows-gt-GREATEST-clause-begun
returns-then-rows-gt-GREATEST-clause-begun g c clean t holds =
    on_err_weaker c.show_rows.result
    (saw_none_first (state g.S.Store c.args.conn.now) g.V.Visit.sees c.args.visitor.now
    c.show_rows.new.visitor (requests_behind_at t c.args.rows))
    (rw c.number_value.ensures at (c.show_rows.ensures.begun clean requests_behind_asks.begins))

pub returns-then-rows-gt-GREATEST-clause-looks : goal.returns-then-rows-gt-GREATEST-clause-looks
returns-then-rows-gt-GREATEST-clause-looks g c =
    c.show_rows.ensures.looks requests_behind_asks.begins

pub returns-then-rows-gt-GREATEST-clause-fails : goal.returns-then-rows-gt-GREATEST-clause-fails
returns-then-rows-gt-GREATEST-clause-fails g c clean t at past free =
    none_behind_excused (state g.S.Store c.args.conn.now) (state g.S.Store c.show_rows.new.conn)
    c.show_rows.result t at past.0 free past.1
    (rw c.number_value.ensures at (c.show_rows.ensures.fails clean requests_behind_asks.begins))

-- ---- behind others

pub returns-clause-seen : goal.returns-clause-seen
returns-clause-seen g c clean t holds =
    let list = requests_behind_list c.args.rows (state g.S.Store c.args.conn.now) t holds in
    OnOk-map c.show_rows-2.result _ _
    (saw_enough list g.V.Visit.sees c.args.visitor.now c.show_rows-2.new.visitor)
    (rw c.number_value-2.ensures at (c.show_rows-2.ensures.seen clean list.ask.begins))

pub returns-clause-begun : goal.returns-clause-begun
returns-clause-begun g c clean t holds =
    let list = requests_behind_list c.args.rows (state g.S.Store c.args.conn.now) t holds in
    on_err_weaker c.show_rows-2.result
    (saw_first list g.V.Visit.sees c.args.visitor.now c.show_rows-2.new.visitor)
    (rw c.number_value-2.ensures at (c.show_rows-2.ensures.begun clean list.ask.begins))

pub returns-clause-looks : goal.returns-clause-looks
returns-clause-looks g c = c.show_rows-2.ensures.looks requests_behind_asks.begins

pub returns-clause-fails : goal.returns-clause-fails
returns-clause-fails g c clean t at past free =
    requests_behind_excused (state g.S.Store c.args.conn.now)
    (state g.S.Store c.show_rows-2.new.conn) c.show_rows-2.result t at past.0 free c.args.rows
    past.1
    (rw c.number_value-2.ensures at
    (c.show_rows-2.ensures.fails clean requests_behind_asks.begins))
