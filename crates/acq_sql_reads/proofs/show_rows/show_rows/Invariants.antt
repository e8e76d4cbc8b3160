use Rattle.std.proofs.Common.{◌≡◌, false}
use Rattle.sqlite.specs.Values.{bound}
use Rattle.acq_book.specs.Visits.{SawRows}
use Rattle.acq_sql_reads.proofs.Showing.{IsShowing}
use Rattle.acq_sql_reads.proofs.show_rows.show_rows.Given as goal

abbrev pub invariant-rows : goal.invariant-rows
invariant-rows g l =
    (l.rows.conn.ghost_name ≡ l.initial.rows.conn.ghost_name)
    × IsShowing g.S.Store l.fn.sql (bound l.fn.params) l.fn.conn g.R.ReadRow.shows g.V.Visit.sees
    l.fn.visitor
    l.rows.conn.now l.counter l.visitor
    × SawRows g.V.Visit.sees l.fn.visitor l.visitor false
