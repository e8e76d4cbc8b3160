use Rattle.acq_book.specs.Lookups.{terminals_at}
use Rattle.acq_sql.proofs.BookBlames.{terminals_walked}
use Rattle.acq_sql.proofs.BookGives.{walked}
use Rattle.acq_sql.proofs.sql_book.SqlBookBook.walk_terminals.Goals as goal

pub returns : goal.returns
returns g c =
    let walk = c.walk_terminals-walked in
    walked g.S.Store _ _ walk.new.conn c.counted.new.failures c.self.view_is c.self.invariant
    c.settled.ensures g.V.Visit.sees (λ t. terminals_at t) c.args.visitor.now
    walk.new.visitor walk.result c.counted.result walk.ensures.looks c.counted.ensures
    (λ clean t holds past. walk.ensures.seen clean t holds)
    (λ clean t holds past. walk.ensures.begun clean t holds)
    walk.ensures.shown _ walk.ensures.fails terminals_walked
