use Rattle.sqlite.specs.Held.{state}
use Rattle.indexmap.proofs.MapLemmas.{OnOk-map}
use Rattle.acq_sql_reads.proofs.WalkTextLemmas.{terminals_asks}
use Rattle.acq_sql_reads.proofs.Walking.{on_err_weaker, saw_first, saw_enough}
use Rattle.acq_sql_reads.proofs.TerminalWalk.{terminals_list}
use Rattle.acq_sql_reads.proofs.FailingWalks.{terminals_excused}
use Rattle.acq_sql_reads.proofs.walks.walk_terminals.Goals as goal

pub returns-clause-seen : goal.returns-clause-seen
returns-clause-seen g c clean t holds =
    let list = terminals_list (state g.S.Store c.args.conn.now) t holds in
    OnOk-map c.show_rows.result _ _
    (saw_enough list g.V.Visit.sees c.args.visitor.now c.show_rows.new.visitor)
    (c.show_rows.ensures.seen clean list.ask.begins)

pub returns-clause-begun : goal.returns-clause-begun
returns-clause-begun g c clean t holds =
    let list = terminals_list (state g.S.Store c.args.conn.now) t holds in
    on_err_weaker c.show_rows.result
    (saw_first list g.V.Visit.sees c.args.visitor.now c.show_rows.new.visitor)
    (c.show_rows.ensures.begun clean list.ask.begins)

pub returns-clause-looks : goal.returns-clause-looks
returns-clause-looks g c = c.show_rows.ensures.looks terminals_asks.begins

pub returns-clause-fails : goal.returns-clause-fails
returns-clause-fails g c clean t at past free =
    terminals_excused (state g.S.Store c.args.conn.now) (state g.S.Store c.show_rows.new.conn)
    c.show_rows.result t at past.0 free past.1
    (c.show_rows.ensures.fails clean terminals_asks.begins)

pub returns-clause-shown : goal.returns-clause-shown
returns-clause-shown g c = c.show_rows.ensures.shown
