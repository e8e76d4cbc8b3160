use Rattle.std.proofs.lemmas.Result.{err_from_is_err_and}
use Rattle.sqlite.specs.Held.{state}
use Rattle.acq_sql_checking.proofs.Blaming.{excused_blames}
use Rattle.acq_sql_opening.proofs.making.make_book.Goals as goal

pub returns-in_err-write_book-clause-blames : goal.returns-in_err-write_book-clause-blames
returns-in_err-write_book-clause-blames g c =
    let p = err_from_is_err_and c.from_residual.result c.from_residual.ensures.1 in
    rw (p.1, p.2) (excused_blames (state g.S.Store c.args.conn.now)
    (state g.S.Store c.write_book.new.conn) c.in_err-write_book.field-0.0
    c.in_err-write_book.ensures.fails)
